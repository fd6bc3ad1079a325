use Rattle.std.proofs.Common.{arith}
use Rattle.graph.proofs.Filing.{walk_start, walk_more, walk_end}
use Rattle.graph.proofs.buckets.strike_bucket.Goals as goal

pub loop-v-init : goal.loop-v-init
loop-v-init c =
    walk_start c.requires.0 c.args.x _ c.bucket_at-at.ensures.0 _ c.next_member-v.ensures

pub loop-v-preserved : goal.loop-v-preserved
loop-v-preserved c =
    walk_more c.requires.0 c.args.x _
    c.bucket_at-at.ensures.0
    c.loop-v-test.true
    c.loop-v.invariant
    c.strike_on.ensures c.next_member-v-in-loop-v.ensures

pub returns : goal.returns
returns c =
    walk_end (omega arith) c.loop-v.invariant
