-- `graph::buckets::file_vertex` meets its contract.
use Rattle.graph.proofs.Filing.{filed_more}
use Rattle.graph.proofs.buckets.file_vertex.Goals as goal

pub returns : goal.returns
returns c =
    filed_more _ (rw c.freq.ensures.0 at
    c.bucket_at-at.ensures.0) c.requires.0 c.insert.ensures
