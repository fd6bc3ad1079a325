-- `spares::table::fill` meets its contract: the first places are the plan's.
use Rattle.std.proofs.Common.{◌≡◌, ◌<◌, ℕ, get_or, pos}
use Rattle.spares.specs.Table.{spare_at}
use Rattle.spares.proofs.table.fill.Given as goal

abbrev pub invariant-loop-i : goal.invariant-loop-i
invariant-loop-i l = (m : ℕ) → m < l.i → get_or l.table m (pos 0) ≡ spare_at l.s l.cells m
