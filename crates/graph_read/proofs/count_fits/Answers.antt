-- `graph_read::count_fits` meets its contract.
use Rattle.std.proofs.Common.{refl, rules}
use Rattle.graph_read.proofs.CountLines.{fits_not, fits_sum}
use Rattle.graph_read.proofs.count_fits.Goals as goal

pub returns-then-count-ne0 : goal.returns-then-count-ne0
returns-then-count-ne0 c =
    let h = c.if-count-ne0.true in fits_sum _ _ _ h.0 h.1 c.requires _ refl

pub returns-else-count-ne0 : goal.returns-else-count-ne0
returns-else-count-ne0 c =
    fits_not _ _ _ c.if-count-ne0.either (search rules)
