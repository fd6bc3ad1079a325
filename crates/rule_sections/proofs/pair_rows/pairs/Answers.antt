use Rattle.std.proofs.Common.{rules, sym}
use Rattle.sets.proofs.Below.{all_none, loop_ends, loop_goes_on, loop_stops}
use Rattle.rule_sections.specs.Rules.{pairs_ok}
use Rattle.rule_sections.proofs.pair_rows.pairs.Goals as goal

pub loop-j-init : goal.loop-j-init
loop-j-init c =
    search (rules, all_none)

pub returns-then-not-rule_pairs : goal.returns-then-not-rule_pairs
unfolding pairs_ok
returns-then-not-rule_pairs c =
    search (rules, loop_stops, sym)

pub loop-j-preserved : goal.loop-j-preserved
loop-j-preserved c =
    search (rules, loop_goes_on)

pub returns : goal.returns
unfolding pairs_ok
returns c =
    search (rules, loop_ends, sym)
