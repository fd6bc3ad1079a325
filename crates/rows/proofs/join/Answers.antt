-- `rows::join` meets its contract: a word of the row is what either word has.
use Rattle.std.proofs.Common.{rules}
use Rattle.rows.proofs.Rows.{joining, put_combined}
use Rattle.rows.proofs.join.Goals as goal

pub returns : goal.returns
returns c =
    put_combined joining (λ x y r made. search rules) c.combine.ensures c.requires.w_in_bounds
