use Rattle.std.proofs.Common.{arith}
use Rattle.sets.proofs.Lists.{tab_none, tab_more, tab_done}
use Rattle.byte_calls.specs.ByteCalls.{cell_in}
use Rattle.byte_calls.proofs.cell_bytes.get_cells.Goals as goal

pub loop-i-init : goal.loop-i-init
loop-i-init c =
    tab_none _ _

pub loop-i-preserved : goal.loop-i-preserved
unfolding cell_in
loop-i-preserved c =
    tab_more _ _ (cell_in c.args.from.now) _ _ (omega arith) c.loop-i.invariant c.word.ensures.0

pub returns : goal.returns
returns c =
    tab_done _ _ (cell_in c.args.from.now) c.loop-i.i (omega arith) c.loop-i.invariant
