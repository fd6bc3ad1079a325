-- `filters::sweep_rows::sweep` meets its contract. The invariant: the classes below e have struck.
use Rattle.filters.proofs.SweepRows.{Sweeping}
use Rattle.filters.proofs.sweep_rows.sweep.Given as goal

abbrev pub invariant-loop-e : goal.invariant-loop-e
invariant-loop-e l =
    Sweeping l.d l.place l.initial.part l.part l.e
