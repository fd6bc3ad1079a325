-- `graph_export::edges::edge_count` meets its contract: the edges of the first u rows are counted.
use Prim.Native.Nat.{◌-◌, ◌*◌, ◌≤◌}
use Rattle.graph_export.specs.Rows.{EdgesCounted}
use Rattle.graph_export.proofs.edges.edge_count.Given as goal

abbrev pub invariant-loop-u : goal.invariant-loop-u
invariant-loop-u l =
    (l.m ≤ l.u * l.n) × EdgesCounted l.n 0 (l.u * l.n) l.part l.m
