use Rattle.rule_strikes.proofs.Spans.{added_none, added_more}
use Rattle.rule_strikes.proofs.span.add_span.Goals as goal

pub loop-v-init : goal.loop-v-init
loop-v-init c =
    added_none _ _ _ _

pub loop-v-preserved : goal.loop-v-preserved
loop-v-preserved c =
    added_more _ _ c.loop-v.auto.v c.loop-v.invariant c.insert.ensures
