-- `graph_read::links::first_of` meets its contract: the first counts are summed.
use Rattle.std.proofs.Common.{◌≡◌, take}
use Rattle.dimacs.specs.Reading.{first_of}
use Rattle.graph_read.proofs.links.first_of.Given as goal

abbrev pub invariant-loop-count : goal.invariant-loop-count
invariant-loop-count l =
    l.first ≡ first_of (take l.k l.counts) l.count-index
