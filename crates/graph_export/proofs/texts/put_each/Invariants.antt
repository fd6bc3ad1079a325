-- The lines of the first l links are put.
use Rattle.std.proofs.Common.{◌*◌, ◌≤◌}
use Rattle.sets.specs.Below.{tabulate}
use Rattle.sheet_rows.specs.Rows.{link_count}
use Rattle.output.specs.Puts.{Puts}
use Rattle.dimacs.specs.Export.{counts_text}
use Rattle.graph_export.proofs.texts.put_each.Given as goal

abbrev pub invariant-loop-l : goal.invariant-loop-l
invariant-loop-l l =
    (l.out.end ≤ 11 * l.l) × Puts (counts_text (tabulate l.l (link_count l.sheet))) l.initial.out l.out
