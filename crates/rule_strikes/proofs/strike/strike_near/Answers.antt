use Rattle.rule_strikes.proofs.Spans.{struck_none, struck_more}
use Rattle.rule_strikes.proofs.strike.strike_near.Goals as goal

pub loop-v-init : goal.loop-v-init
loop-v-init c =
    struck_none _ _ _ _ _

pub loop-v-preserved : goal.loop-v-preserved
loop-v-preserved c =
    struck_more _ _ _ c.loop-v.auto.v c.loop-v.invariant c.strike_one.ensures
