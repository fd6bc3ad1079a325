use Rattle.std.proofs.Common.{arith}
use Rattle.filters.proofs.PreFilterRows.{layering_none, layering_more, layering_all}
use Rattle.filters.proofs.pre_filter_rows.pre_filter.Goals as goal

pub loop-e-init : goal.loop-e-init
loop-e-init c =
    layering_none

pub loop-e-preserved : goal.loop-e-preserved
loop-e-preserved c =
    layering_more c.requires c.loop-e.invariant c.loop-e-test.true c.row_at-m.ensures.here c.copy.ensures
    c.strike_unreached.ensures

pub returns : goal.returns
returns c =
    layering_all c.requires c.loop-e.invariant (omega arith) c.is_open.ensures
