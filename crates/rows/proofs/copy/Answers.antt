-- `rows::copy` meets its contract: a word of the row is that of row a.
use Rattle.std.proofs.Common.{rules}
use Rattle.rows.proofs.Rows.{copying, put_combined}
use Rattle.rows.proofs.copy.Goals as goal

pub returns : goal.returns
returns c =
    put_combined copying (λ x y r made. search rules) c.combine.ensures c.requires.w_in_bounds
