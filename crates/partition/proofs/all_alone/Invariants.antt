-- `partition::all_alone` meets its contract. The invariant: each vertex below v is adjacent to none of its class, where
-- the masks are there.
use Rattle.std.proofs.Common.{ℕ, Bool, true, ◌≡◌}
use Rattle.sets.specs.Below.{all}
use Rattle.partition.specs.Partition.{class_of, free}
use Rattle.partition.specs.Words.{Rows, Masked}
use Rattle.partition.proofs.all_alone.Given as goal

abbrev pub invariant-loop-v : goal.invariant-loop-v
invariant-loop-v l =
    (adj : ℕ → ℕ → Bool) → Rows adj l.place.w l.place.graph l.place.n l.part
    → Masked l.place.n l.place.k l.cls l.place.w l.place.masks l.part
    → all l.v (λ (v : ℕ). free l.place.n l.place.k adj (class_of l.cls v) l.cls v) ≡ true
