-- `graph::buckets::file_vertices` meets its contract. The invariant: the vertices below v are filed.
use Rattle.graph.specs.Buckets.{Filed}
use Rattle.graph.proofs.buckets.file_vertices.Given as goal

abbrev pub invariant-loop-v : goal.invariant-loop-v
invariant-loop-v l =
    Filed l.fs l.v l.wide l.table
