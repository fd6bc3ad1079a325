use Rattle.std.proofs.Common.{arith}
use Rattle.filters.specs.Unit.{unit}
use Rattle.filters.proofs.Steps.{turns_none, turns_shut, turns_more, turns_all}
use Rattle.filters.proofs.Unit.{UnitClosed, unit_greatest}
use Rattle.filters.proofs.UnitRows.{calm_rests}
use Rattle.filters.proofs.unit_rows.pass.Goals as goal

pub loop-c-init : goal.loop-c-init
loop-c-init c =
    turns_none unit UnitClosed unit_greatest _ c.requires.0

pub returns-in_err-struck : goal.returns-in_err-struck
returns-in_err-struck c =
    rw c.from_residual.ensures (turns_shut unit UnitClosed unit_greatest _ c.requires.0 _ c.loop-c.invariant
    (rw c.in_err-struck.was at (c.visit.ensures _ c.loop-c.auto.c)))

pub loop-c-preserved : goal.loop-c-preserved
loop-c-preserved c =
    turns_more unit UnitClosed unit_greatest _ c.requires.0 _ c.loop-c.invariant _
    (rw c.in_ok-struck.was at (c.visit.ensures _ c.loop-c.auto.c))

pub returns : goal.returns
returns c =
    turns_all unit UnitClosed unit_greatest _ c.requires.0 _ c.loop-c.invariant (omega arith) (calm_rests _)
