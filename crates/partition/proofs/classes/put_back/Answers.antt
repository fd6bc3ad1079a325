use Rattle.std.proofs.Common.{refl, arith}
use Rattle.sets.proofs.Lists.{tab_none, tab_more}
use Rattle.partition.proofs.classes.put_back.Goals as goal

pub loop-v-init : goal.loop-v-init
loop-v-init c =
    tab_none _ _

pub loop-v-preserved : goal.loop-v-preserved
loop-v-preserved c =
    tab_more _ _ _ _ _ (omega arith) c.loop-v.invariant refl
