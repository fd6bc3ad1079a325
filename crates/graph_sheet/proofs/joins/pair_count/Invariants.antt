-- `graph_sheet::joins::pair_count` meets its contract: the pairs of the rows before position x are counted.
use mathlib.Core.Path.{◌≡◌}
use Prim.Native.Nat.{◌*◌, ◌≤◌}
use Rattle.vset.specs.Words.{has}
use Rattle.dimacs.specs.Made.{joined}
use Rattle.graph_sheet.proofs.Pairing.{rows_to}
use Rattle.graph_sheet.proofs.joins.pair_count.Given as goal

abbrev pub invariant-loop-x : goal.invariant-loop-x
invariant-loop-x l =
    (l.m ≤ 512 * l.x) × (l.m ≡ rows_to (joined l.n (has l.codes)) l.p l.x)
