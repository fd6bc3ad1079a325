-- `cells::put_plan` meets its contract: the cells of the links passed are filled, and the others are still zero.
use Rattle.std.proofs.Common.{◌≡◌, List, ◌++◌, ℕ, drop}
use Rattle.sets.specs.Below.{tabulate}
use Rattle.rules.specs.Job.{job_of}
use Rattle.cells.specs.Cells.{chosen_by, cell_of}
use Rattle.cells.proofs.put_plan.Given as goal

-- the cell of a link, by what is chosen
abbrev pub cell_is : List ℕ → List ℕ → ℕ → ℕ
cell_is sheet chosen = cell_of (job_of sheet) (chosen_by chosen)

abbrev pub invariant-loop-l : goal.invariant-loop-l
invariant-loop-l l =
    l.cells ≡ tabulate l.l (cell_is l.sheet l.chosen) ++ drop l.l l.initial.cells
