use Rattle.rule_strikes.proofs.Strikes.{partners_put_none, partners_put_more}
use Rattle.rule_strikes.proofs.strike.write_listed.Goals as goal

pub loop-i-init : goal.loop-i-init
loop-i-init c =
    partners_put_none _ _ _ _ _ _ _ _

pub loop-i-preserved : goal.loop-i-preserved
loop-i-preserved c =
    partners_put_more _ _ _ _ _ _ _ c.loop-i.invariant c.add_partner.ensures
