-- `rules::plans::place` meets its contract.
use Rattle.std.proofs.Common.{◌+◌, ◌≡◌, false, eqb}
use Rattle.sets.specs.Below.{any}
use Rattle.sheet_rows.specs.Rows.{freq}
use Rattle.rules.proofs.plans.place.Given as goal

abbrev pub invariant-loop-i : goal.invariant-loop-i
invariant-loop-i l =
    any l.i (λ m. eqb (freq l.fs (l.from + m)) l.x) ≡ false
