-- `partition::put_layers` meets its contract. The invariant: the layers of the vertices below v are written.
use Rattle.std.proofs.Common.{◌≡◌, ◌++◌, drop}
use Rattle.sets.specs.Below.{tabulate}
use Rattle.pair_test.specs.Layers.{layer_of}
use Rattle.partition.proofs.put_layers.Given as goal

abbrev pub invariant-loop-v : goal.invariant-loop-v
invariant-loop-v l =
    l.cls ≡ tabulate l.v (layer_of l.sheet l.k) ++ drop l.v l.initial.cls
