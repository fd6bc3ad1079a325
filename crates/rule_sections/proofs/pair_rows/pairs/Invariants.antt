-- `rule_sections::pair_rows::pairs` meets its contract.
use Rattle.std.proofs.Common.{◌≡◌, true}
use Rattle.sets.specs.Below.{all}
use Rattle.rule_sections.specs.Rules.{rule_pairs_ok}
use Rattle.rule_sections.proofs.pair_rows.pairs.Given as goal

abbrev pub invariant-loop-j : goal.invariant-loop-j
invariant-loop-j l =
    all l.j (rule_pairs_ok l.s l.rs l.p) ≡ true
