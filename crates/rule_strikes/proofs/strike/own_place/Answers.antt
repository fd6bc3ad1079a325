-- `rule_strikes::strike::own_place` meets its contract.
use Rattle.std.proofs.Common.{rules}
use Rattle.rule_strikes.specs.Strikes.{own_place}
use Rattle.rule_strikes.proofs.strike.own_place.Goals as goal

pub returns-then-turned : goal.returns-then-turned
unfolding own_place
returns-then-turned c = search rules

pub returns-else-turned : goal.returns-else-turned
unfolding own_place
returns-else-turned c = search rules
