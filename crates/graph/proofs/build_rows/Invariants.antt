-- `graph::build_rows` meets its contract. The invariant: the rows hold the neighbours under the first j rules.
use Rattle.graph.specs.Graph.{adjacent}
use Rattle.graph.specs.Rows.{Built}
use Rattle.graph.proofs.build_rows.Given as goal

abbrev pub invariant-loop-j : goal.invariant-loop-j
invariant-loop-j l =
    Built (adjacent l.sheet l.fs l.rs l.ps l.place.k l.place.n l.j) l.place.w l.place.graph l.place.n l.initial.part l.part
