-- `graph_sheet::sections::put_rules` meets its contract: the rows of the codes below z are put.
use mathlib.Core.Bool.{Bool}
use mathlib.Core.List.{List}
use Prim.Native.Nat.{ℕ, ◌+◌, ◌*◌, ◌≤◌}
use Rattle.dimacs.specs.Lists.{join_to}
use Rattle.dimacs.specs.Made.{rule_row}
use Rattle.output.specs.Puts.{Puts}
use Rattle.graph_sheet.specs.Marks.{FewPairs}
use Rattle.graph_sheet.proofs.Ruling.{Tally, place_of}
use Rattle.graph_sheet.proofs.sections.put_rules.Given as goal

abbrev pub invariant-loop-z : goal.invariant-loop-z
invariant-loop-z l =
    (l.out.end ≤ l.initial.out.end + 12 * l.z) × ((cs : List ℕ) (adj : ℕ → ℕ → Bool) → FewPairs cs adj l.k l.marks
    → Tally cs adj l.z l.t × Puts (join_to (place_of cs adj l.z) (rule_row cs adj)) l.initial.out l.out)
