-- `graph_read::links::layer_by` meets its contract: the links from l on start past v.
use Rattle.std.proofs.Common.{◌≡◌, take}
use Rattle.dimacs.specs.Reading.{first_of, layer_by}
use Rattle.graph_read.proofs.links.layer_by.Given as goal

abbrev pub invariant-loop-l : goal.invariant-loop-l
invariant-loop-l l =
    (l.first ≡ first_of (take l.k l.counts) l.l) × (layer_by (take l.k l.counts) l.k l.v ≡ layer_by (take l.k l.counts) l.l l.v)
