-- The lines of the first u rows are put.
use Rattle.std.proofs.Common.{◌*◌}
use Rattle.graph_export.specs.Rows.{LinesPut}
use Rattle.graph_export.proofs.texts.put_edges.Given as goal

abbrev pub invariant-loop-u : goal.invariant-loop-u
invariant-loop-u l = LinesPut l.n 0 (l.u * l.n) (24 * (l.u * l.n)) l.part l.initial.out l.out
