-- `rules::plans::cells_listed` meets its contract.
use Rattle.std.proofs.Common.{◌≡◌, true}
use Rattle.sets.specs.Below.{all}
use Rattle.rules.specs.Asked.{cell_listed}
use Rattle.rules.proofs.plans.cells_listed.Given as goal

abbrev pub invariant-loop-l : goal.invariant-loop-l
invariant-loop-l l =
    all l.l (cell_listed l.s l.cells) ≡ true
