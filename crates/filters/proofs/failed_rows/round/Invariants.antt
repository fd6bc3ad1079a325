-- `filters::failed_rows::round` meets its contract. The invariant: the classes below c have had their turn, one after
-- another.
use Rattle.cliques.specs.Words.{four_rows}
use Rattle.filters.specs.Failed.{failed}
use Rattle.filters.specs.Step.{BothStand}
use Rattle.filters.proofs.Steps.{Turns}
use Rattle.filters.proofs.failed_rows.round.Given as goal

abbrev pub invariant-loop-c : goal.invariant-loop-c
invariant-loop-c l =
    Turns failed (λ x G. BothStand G l.d x) (four_rows l.place) l.d l.place l.initial.part l.part l.struck l.c
