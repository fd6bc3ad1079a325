-- The loop's invariant: the cell of link a is allowed with those of the higher links below b, and the rules before j
-- come before the links a and b.
use Rattle.std.proofs.Common.{ℕ, ◌≤◌, ◌≡◌, List, Bool, true, ◌||◌, leb}
use Rattle.sets.specs.Below.{all}
use Rattle.sheet.specs.Sheet.{q_of, rule_part}
use Rattle.pair_test.specs.Asked.{ComeBefore}
use Rattle.rules.specs.Asked.{cells_keep}
use Rattle.rules.proofs.plans.link_kept.Given as goal

-- link b is not above a, or the cells of both are allowed
abbrev pub above : List ℕ → List ℕ → ℕ → ℕ → Bool
above s cells a b = leb b a || cells_keep s cells a b

abbrev pub invariant-loop-b : goal.invariant-loop-b
invariant-loop-b l =
    record {
      within : l.j ≤ q_of l.s;
      before : ComeBefore (rule_part l.s) l.a l.b l.j;
      kept : all l.b (above l.s l.cells l.a) ≡ true;
    }
