-- The loop's invariant: the rules before `low` come before the links, and the one at `high`, if there is one, does not.
use Rattle.std.proofs.Common.{◌-◌, ◌≤◌, ◌<◌, ◌≡◌, false}
use Rattle.sheet_rows.specs.Rows.{rule_a, rule_b}
use Rattle.rule_sections.specs.Rules.{before}
use Rattle.sheet.specs.Sheet.{q_of, rule_part}
use Rattle.pair_test.specs.Asked.{ComeBefore}
use Rattle.pair_test.proofs.seek.find_rule.Given as goal

abbrev pub invariant-loop-low : goal.invariant-loop-low
invariant-loop-low l =
    (l.low ≤ l.high) × (l.high ≤ q_of l.s) × ComeBefore (rule_part l.s) l.a l.b l.low
    × (l.high < q_of l.s → before (rule_a (rule_part l.s) l.high) (rule_b (rule_part l.s) l.high) l.a l.b ≡ false)

abbrev pub decreases-loop-low : goal.decreases-loop-low
decreases-loop-low l =
    l.high - l.low
