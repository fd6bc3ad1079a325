-- `filters::unit_rows::pass` meets its contract. The invariant: the classes below c were visited, one after another.
use Rattle.cliques.specs.Words.{two_rows}
use Rattle.filters.specs.Step.{Calm}
use Rattle.filters.specs.Unit.{unit}
use Rattle.filters.proofs.Steps.{Turns}
use Rattle.filters.proofs.unit_rows.pass.Given as goal

abbrev pub invariant-loop-c : goal.invariant-loop-c
invariant-loop-c l =
    Turns unit (λ x G. Calm G l.d x) (two_rows l.place) l.d l.place l.initial.part l.part l.struck l.c
