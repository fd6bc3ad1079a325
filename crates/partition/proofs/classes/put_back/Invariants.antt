-- `partition::classes::put_back` meets its contract. The invariant: the classes below v are back.
use Rattle.std.proofs.Common.{◌≡◌, ℕ, ◌++◌, get_or, drop}
use Rattle.sets.specs.Below.{tabulate}
use Rattle.partition.proofs.classes.put_back.Given as goal

abbrev pub invariant-loop-v : goal.invariant-loop-v
invariant-loop-v l =
    l.cls ≡ tabulate l.v (λ (v : ℕ). get_or l.part v 0) ++ drop l.v l.initial.cls
