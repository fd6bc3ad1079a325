-- `rule_sections::pair_rows::pairs_rise` meets its contract.
use Rattle.std.proofs.Common.{◌≡◌, true}
use Rattle.sets.specs.Below.{all}
use Rattle.rule_sections.specs.Rules.{pair_ok}
use Rattle.rule_sections.proofs.pair_rows.pairs_rise.Given as goal

abbrev pub invariant-loop-i : goal.invariant-loop-i
invariant-loop-i l =
    all l.i (pair_ok l.p l.base l.m l.n) ≡ true
