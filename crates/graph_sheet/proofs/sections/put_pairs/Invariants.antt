-- `graph_sheet::sections::put_pairs` meets its contract: the rows of the codes below z are put.
use Prim.Native.Nat.{◌+◌, ◌*◌, ◌≤◌}
use Rattle.dimacs.specs.Lists.{join_to}
use Rattle.dimacs.specs.Made.{rule_pair_rows}
use Rattle.output.specs.Puts.{Puts}
use Rattle.graph_sheet.specs.Pairs.{counts_in, adjacent_in}
use Rattle.graph_sheet.proofs.Ruling.{place_of}
use Rattle.graph_sheet.proofs.sections.put_pairs.Given as goal

abbrev pub invariant-loop-z : goal.invariant-loop-z
invariant-loop-z l =
    let cs = counts_in l.counts l.s in
    let adj = adjacent_in l.codes l.s in
    (l.out.end ≤ l.initial.out.end + 1048576 * l.z) × Puts (join_to (place_of cs adj l.z) (rule_pair_rows cs adj)) l.initial.out l.out
