-- `graph::start::start_rows` meets its contract. The invariant: the rows of the links below l are written.
use Rattle.std.proofs.Common.{ℕ}
use Rattle.sets.specs.Below.{sum_to}
use Rattle.sets.specs.Sets.{Set}
use Rattle.sheet_rows.specs.Rows.{link_count}
use Rattle.graph.specs.Graph.{links_differ}
use Rattle.rule_strikes.specs.Strikes.{Rewritten}
use Rattle.graph.proofs.start.start_rows.Given as goal

abbrev pub invariant-loop-l : goal.invariant-loop-l
invariant-loop-l l =
    Rewritten (λ (u : ℕ) (S : Set). links_differ l.sheet l.place.k l.place.n u) 0 (sum_to l.l (link_count l.sheet))
    l.place.w l.place.graph l.place.n l.initial.part l.part
