-- `filters::is_open` meets its contract. The invariant: a vertex was seen in each class passed.
use Rattle.std.proofs.Common.{◌≡◌, true, ℕ, ◌<◌, ◌≤◌}
use Rattle.sets.specs.Sets.{◌∩◌}
use Rattle.rows.specs.Rows.{set_at, row_at}
use Rattle.filters.proofs.is_open.Given as goal

abbrev pub invariant-loop-c : goal.invariant-loop-c
invariant-loop-c l =
    (x : ℕ) → l.d ≤ x → x < l.c → (v : ℕ) × ((set_at l.part l.w 0 ∩ row_at l.part l.w l.masks x) v ≡ true)
