-- `graph::start::repeat_row` meets its contract. The invariant: the rows after the first up to u are as it is.
use Rattle.std.proofs.Common.{ℕ, ◌+◌}
use Rattle.sets.specs.Sets.{Set}
use Rattle.rows.specs.Rows.{row_at}
use Rattle.rule_strikes.specs.Strikes.{Rewritten}
use Rattle.graph.proofs.start.repeat_row.Given as goal

abbrev pub invariant-loop-u : goal.invariant-loop-u
invariant-loop-u l =
    Rewritten (λ (u : ℕ) (S : Set). row_at l.initial.part l.place.w l.place.graph l.first) (l.first + 1) l.u l.place.w
    l.place.graph
    l.place.n l.initial.part l.part
