-- The loop's invariant: the rows so far are right, and `sum` is the sum of their kind 3 counts.
use Rattle.std.proofs.Common.{◌*◌, ◌≤◌, ◌≡◌, true}
use Rattle.sets.specs.Below.{all, sum_to}
use Rattle.rule_sections.specs.Rules.{listed as listed_by, rule_ok}
use Rattle.rule_sections.proofs.rule_rows.rules.Given as goal

abbrev pub invariant-loop-j : goal.invariant-loop-j
invariant-loop-j l =
    record {
      right : all l.j (rule_ok l.p l.k) ≡ true;
      summed : l.sum ≡ sum_to l.j (listed_by l.p);
      small : l.sum ≤ 65535 * l.j;
    }
