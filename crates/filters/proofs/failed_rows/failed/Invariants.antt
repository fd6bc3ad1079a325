-- `filters::failed_rows::failed` meets its contract. The invariant: the own row is on the way. The measure: the number
-- of live vertices.
use Rattle.std.proofs.Common.{◌*◌}
use Rattle.sets.specs.Below.{count}
use Rattle.cliques.specs.Words.{own_row, four_rows}
use Rattle.filters.specs.Failed.{failed}
use Rattle.filters.proofs.Repeats.{Repeating}
use Rattle.filters.proofs.failed_rows.failed.Given as goal

abbrev pub invariant-loop-place : goal.invariant-loop-place
invariant-loop-place l =
    Repeating failed (four_rows l.place) l.d l.place l.initial.part l.part

abbrev pub decreases-loop-place : goal.decreases-loop-place
decreases-loop-place l =
    count (64 * l.place.w) (own_row l.place l.part)
