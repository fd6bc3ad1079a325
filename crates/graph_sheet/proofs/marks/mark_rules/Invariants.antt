-- `graph_sheet::marks::mark_rules` meets its contract: the codes below z are marked and counted.
use Rattle.graph_sheet.specs.Pairs.{counts_in, adjacent_in}
use Rattle.graph_sheet.specs.Marks.{MarkedTo}
use Rattle.graph_sheet.proofs.Ruling.{Tally}
use Rattle.graph_sheet.proofs.marks.mark_rules.Given as goal

abbrev pub invariant-loop-z : goal.invariant-loop-z
invariant-loop-z l =
    MarkedTo (counts_in l.counts l.s) (adjacent_in l.codes l.s) l.marks l.z
    × Tally (counts_in l.counts l.s) (adjacent_in l.codes l.s) l.z l.t
