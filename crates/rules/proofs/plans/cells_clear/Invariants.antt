-- `rules::plans::cells_clear` meets its contract.
use Rattle.std.proofs.Common.{◌≡◌, true}
use Rattle.sets.specs.Below.{all}
use Rattle.rules.specs.Plans.{cells_of, clear}
use Rattle.rules.proofs.plans.cells_clear.Given as goal

abbrev pub invariant-loop-cell : goal.invariant-loop-cell
invariant-loop-cell l = all l.cell-index (clear l.channels (cells_of l.cells)) ≡ true
