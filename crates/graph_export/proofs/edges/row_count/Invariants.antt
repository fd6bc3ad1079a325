-- `graph_export::edges::row_count` meets its contract: the edges below the next neighbour are counted.
use Prim.Native.Nat.{◌+◌, ◌-◌, ◌*◌, ◌≤◌}
use Rattle.graph_export.specs.Rows.{EdgesCounted}
use Rattle.graph_export.proofs.Walks.{AtNeighbour}
use Rattle.graph_export.proofs.edges.row_count.Given as goal

abbrev pub invariant-loop-v : goal.invariant-loop-v
invariant-loop-v l =
    (l.m ≤ l.v) × AtNeighbour l.n l.u l.v l.part × EdgesCounted l.n (l.u * l.n) (l.u * l.n + l.v) l.part l.m

abbrev pub decreases-loop-v : goal.decreases-loop-v
decreases-loop-v l =
    l.n - l.v
