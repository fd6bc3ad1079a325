-- `filters::unit_rows::unit_steps` meets its contract. The invariant: the own row is on the way. The measure: the number
-- of live vertices.
use Rattle.std.proofs.Common.{◌*◌, ◌≤◌}
use Rattle.sets.specs.Below.{count}
use Rattle.cliques.specs.Words.{own_row, two_rows}
use Rattle.filters.specs.Unit.{unit}
use Rattle.filters.proofs.Repeats.{Repeating}
use Rattle.filters.proofs.unit_rows.unit_steps.Given as goal

abbrev pub invariant-loop : goal.invariant-loop
invariant-loop l =
    Repeating unit (two_rows l.place) l.d l.place l.initial.part l.part
    × (count (64 * l.place.w) (own_row l.place l.part) ≤ count (64 * l.place.w) (own_row l.place l.initial.part))

abbrev pub decreases-loop : goal.decreases-loop
decreases-loop l =
    count (64 * l.place.w) (own_row l.place l.part)
