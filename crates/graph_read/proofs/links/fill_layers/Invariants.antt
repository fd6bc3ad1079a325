-- `graph_read::links::fill_layers` meets its contract: the table has the links of the vertices below v.
use Rattle.std.proofs.Common.{◌≡◌, ◌++◌, take, drop}
use Rattle.sets.specs.Below.{tabulate}
use Rattle.dimacs.specs.Reading.{layer_by}
use Rattle.graph_read.proofs.links.fill_layers.Given as goal

abbrev pub invariant-loop-v : goal.invariant-loop-v
invariant-loop-v l =
    l.layers ≡ tabulate l.v (layer_by (take l.k l.counts) l.k) ++ drop l.v l.initial.layers
