-- The lines of the edges below the next neighbour are put.
use Rattle.std.proofs.Common.{◌+◌, ◌-◌, ◌*◌}
use Rattle.graph_export.specs.Rows.{LinesPut}
use Rattle.graph_export.proofs.Walks.{AtNeighbour}
use Rattle.graph_export.proofs.texts.put_row.Given as goal

abbrev pub invariant-loop-v : goal.invariant-loop-v
invariant-loop-v l =
    AtNeighbour l.n l.u l.v l.part × LinesPut l.n (l.u * l.n) (l.u * l.n + l.v) (24 * l.v) l.part l.initial.out l.out

abbrev pub decreases-loop-v : goal.decreases-loop-v
decreases-loop-v l = l.n - l.v
