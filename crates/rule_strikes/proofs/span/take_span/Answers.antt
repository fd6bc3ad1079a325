use Rattle.rule_strikes.proofs.Spans.{taken_none, taken_more}
use Rattle.rule_strikes.proofs.span.take_span.Goals as goal

pub loop-v-init : goal.loop-v-init
loop-v-init c =
    taken_none _ _ _ _

pub loop-v-preserved : goal.loop-v-preserved
loop-v-preserved c =
    taken_more _ _ c.loop-v.auto.v c.loop-v.invariant c.remove.ensures
