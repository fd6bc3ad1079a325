-- `graph::buckets::strike_bucket` meets its contract. The invariant is `Walking`.
use Rattle.std.proofs.Common.{◌-◌}
use Rattle.graph.proofs.Filing.{Walking}
use Rattle.graph.proofs.buckets.strike_bucket.Given as goal

abbrev pub invariant-loop-v : goal.invariant-loop-v
invariant-loop-v l =
    Walking l.fs l.n l.x l.w l.to l.initial.part l.part l.v

abbrev pub decreases-loop-v : goal.decreases-loop-v
decreases-loop-v l =
    l.n - l.v
