use Rattle.std.proofs.Common.{arith}
use Rattle.sets.proofs.Lists.{tab_none, tab_more, tab_done}
use Rattle.pair_test.specs.Layers.{layer_of}
use Rattle.partition.specs.Partition.{layers_of}
use Rattle.partition.proofs.Choice.{layer_small}
use Rattle.partition.proofs.put_layers.Goals as goal

pub loop-v-init : goal.loop-v-init
loop-v-init c =
    tab_none _ (layer_of c.args.sheet.now c.args.k)

pub overflow_cast-class : goal.overflow_cast-class
overflow_cast-class c =
    omega (arith, layer_small c.args.sheet.now c.args.k c.loop-v.v, c.layer-l.ensures)

pub loop-v-preserved : goal.loop-v-preserved
loop-v-preserved c =
    tab_more _ _ _ _ _ (omega arith) c.loop-v.invariant c.layer-l.ensures

pub returns : goal.returns
unfolding layers_of
returns c =
    tab_done _ _ (layer_of c.args.sheet.now c.args.k) _ (omega arith) c.loop-v.invariant
