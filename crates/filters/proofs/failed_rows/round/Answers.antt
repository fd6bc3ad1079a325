use Rattle.filters.specs.Failed.{failed}
use Rattle.filters.proofs.Failed.{Closed, failed_greatest}
use Rattle.filters.proofs.Steps.{turns_none, turns_shut, turns_more}
use Rattle.filters.proofs.failed_rows.round.Goals as goal

pub loop-c-init : goal.loop-c-init
loop-c-init c =
    turns_none failed Closed failed_greatest _ c.requires.0

pub returns-in_err-struck : goal.returns-in_err-struck
returns-in_err-struck c =
    rw c.from_residual.ensures (turns_shut failed Closed failed_greatest _ c.requires.0 _ c.loop-c.invariant
    (rw c.in_err-struck.was at c.try_class.ensures))

pub loop-c-preserved : goal.loop-c-preserved
loop-c-preserved c =
    turns_more failed Closed failed_greatest _ c.requires.0 _ c.loop-c.invariant _
    (rw c.in_ok-struck.was at c.try_class.ensures)
