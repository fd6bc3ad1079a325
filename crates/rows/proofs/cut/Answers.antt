-- `rows::cut` meets its contract: a word of the row is what the first has and the second has not.
use Rattle.std.proofs.Common.{rules}
use Rattle.rows.proofs.Rows.{cutting, put_combined}
use Rattle.rows.proofs.cut.Goals as goal

pub returns : goal.returns
returns c =
    put_combined cutting (λ x y r made. search rules) c.combine.ensures c.requires.w_in_bounds
