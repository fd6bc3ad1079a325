-- `graph_sheet::sections::put_row` meets its contract: the pair rows before position y are put.
use Prim.Native.Nat.{◌+◌, ◌*◌, ◌≤◌}
use Rattle.vset.specs.Words.{has}
use Rattle.dimacs.specs.Lists.{join_to}
use Rattle.dimacs.specs.Made.{joined}
use Rattle.output.specs.Puts.{Puts}
use Rattle.graph_sheet.specs.Rows.{pair_row_in}
use Rattle.graph_sheet.proofs.sections.put_row.Given as goal

abbrev pub invariant-loop-y : goal.invariant-loop-y
invariant-loop-y l =
    (l.out.end ≤ l.initial.out.end + 4 * l.y) × Puts (join_to l.y (pair_row_in (joined l.n (has l.codes)) l.p l.x)) l.initial.out l.out
