-- `rules::plans::keeps_job` meets its contract.
use Rattle.rules.specs.Plans.{keeps_job}
use Rattle.rules.proofs.plans.keeps_job.Goals as goal

pub returns-then-not-cells_clear : goal.returns-then-not-cells_clear
unfolding keeps_job
returns-then-not-cells_clear c =
    let h = c.cells_clear in
    rw (← c.links_of.ensures.0, ← h.ensures, c.if-not-cells_clear.true)

pub returns : goal.returns
unfolding keeps_job
returns c =
    let h = c.cells_clear in
    rw (← c.links_of.ensures.0, ← h.ensures, c.if-not-cells_clear.false)
    c.keeps_sheet.ensures
