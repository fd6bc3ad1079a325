use Rattle.std.proofs.Common.{take, arith}
use Rattle.sets.proofs.Lists.{tab_none, tab_more, tab_done}
use Rattle.graph_read.proofs.Firsts.{layer_few}
use Rattle.graph_read.proofs.links.fill_layers.Goals as goal

pub loop-v-init : goal.loop-v-init
loop-v-init c =
    tab_none _ _

-- a link is below 64
pub overflow_cast-layer : goal.overflow_cast-layer
overflow_cast-layer c =
    let few = layer_few (take c.args.k c.args.counts.now) c.args.k c.loop-v.v in
    omega (arith, c.layer_by.ensures, c.requires.0.links)

pub loop-v-preserved : goal.loop-v-preserved
loop-v-preserved c =
    tab_more _ _ _ _ _ (omega arith) c.loop-v.invariant c.layer_by.ensures

pub returns : goal.returns
returns c =
    tab_done _ _ _ _ (omega arith) c.loop-v.invariant
