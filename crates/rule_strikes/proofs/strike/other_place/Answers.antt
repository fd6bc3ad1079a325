-- `rule_strikes::strike::other_place` meets its contract.
use Rattle.std.proofs.Common.{◌∙◌}
use Rattle.rule_strikes.proofs.Strikes.{own_turned}
use Rattle.rule_strikes.proofs.strike.other_place.Goals as goal

pub returns : goal.returns
returns c = c.own_place.ensures ∙ own_turned _ c.args.turned _
