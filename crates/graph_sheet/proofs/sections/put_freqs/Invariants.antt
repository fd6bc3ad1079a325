-- `graph_sheet::sections::put_freqs` meets its contract: the first v frequencies are put.
use mathlib.Core.Path.{◌≡◌}
use Prim.Native.Nat.{◌+◌, ◌*◌}
use Rattle.dimacs.specs.Lists.{join_to}
use Rattle.dimacs.specs.Made.{freq_row}
use Rattle.output.specs.Puts.{Puts}
use Rattle.graph_sheet.proofs.sections.put_freqs.Given as goal

abbrev pub invariant-loop-v : goal.invariant-loop-v
invariant-loop-v l =
    (l.out.end ≡ l.initial.out.end + 4 * l.v) × Puts (join_to l.v freq_row) l.initial.out l.out
