-- `graph::buckets::separate_all` meets its contract. The invariant: the rows up to u are without their own frequencies.
use Rattle.rule_strikes.specs.Strikes.{Rewritten}
use Rattle.graph.specs.Buckets.{separated}
use Rattle.graph.proofs.buckets.separate_all.Given as goal

abbrev pub invariant-loop-u : goal.invariant-loop-u
invariant-loop-u l =
    Rewritten (separated l.fs l.place.n) 0 l.u l.place.w l.place.graph l.place.n l.initial.part l.part
