-- `graph_sheet::sections::put_joined` meets its contract: the pair rows of the positions before x are put.
use Prim.Native.Nat.{◌+◌, ◌*◌, ◌≤◌}
use Rattle.vset.specs.Words.{has}
use Rattle.dimacs.specs.Lists.{join_to}
use Rattle.dimacs.specs.Made.{joined}
use Rattle.output.specs.Puts.{Puts}
use Rattle.graph_sheet.specs.Rows.{pair_rows_in}
use Rattle.graph_sheet.proofs.sections.put_joined.Given as goal

abbrev pub invariant-loop-x : goal.invariant-loop-x
invariant-loop-x l =
    (l.out.end ≤ l.initial.out.end + 2048 * l.x) × Puts (join_to l.x (pair_rows_in (joined l.n (has l.codes)) l.p)) l.initial.out l.out
