-- `graph::buckets::bucket_at` meets its contract.
use Rattle.std.proofs.Common.{refl, arith}
use Rattle.rows.proofs.Rows.{row_inside}
use Rattle.graph.specs.Buckets.{buckets, bucket_of}
use Rattle.graph.proofs.Filing.{bucket_lt}
use Rattle.graph.proofs.buckets.bucket_at.Goals as goal

pub returns : goal.returns
unfolding bucket_of
returns c =
    let i = row_inside (bucket_of c.args.x) buckets c.args.wide (bucket_lt c.args.x) in
    let h = c.requires in (refl, omega arith)
