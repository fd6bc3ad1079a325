-- `graph::buckets::separate_rows` meets its contract.
use Rattle.std.proofs.Common.{arith}
use Rattle.graph.proofs.Filing.{filed_none}
use Rattle.graph.proofs.buckets.separate_rows.Goals as goal

pub file_vertices-requires : goal.file_vertices-requires
file_vertices-requires c =
    let h = c.requires in
    (filed_none _ _, omega arith, omega arith, h.1)
