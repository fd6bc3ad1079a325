-- `rows::meet` meets its contract: a word of the row is what both words have.
use Rattle.std.proofs.Common.{rules}
use Rattle.rows.proofs.Rows.{meeting, put_combined}
use Rattle.rows.proofs.meet.Goals as goal

pub returns : goal.returns
returns c =
    put_combined meeting (λ x y r made. search rules) c.combine.ensures c.requires.w_in_bounds
