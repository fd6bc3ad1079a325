use Rattle.std.proofs.Common.{arith}
use Rattle.filters.proofs.SweepRows.{sweeping_none, sweeping_more, sweeping_all}
use Rattle.filters.proofs.Filtered.{filtered_before}
use Rattle.filters.proofs.sweep_rows.sweep.Goals as goal

pub loop-e-init : goal.loop-e-init
loop-e-init c =
    sweeping_none c.clear.ensures.here

pub loop-e-preserved : goal.loop-e-preserved
loop-e-preserved c =
    sweeping_more c.requires.0 c.loop-e.invariant c.loop-e.auto.e c.loop-e-test.true c.row_at-m.ensures.here c.sweep_by.ensures

pub returns : goal.returns
returns c =
    filtered_before c.requires.0 (omega arith) (omega arith) c.clear.ensures.rest
    (sweeping_all c.requires.0 c.loop-e.invariant (omega arith) c.is_open.ensures)
