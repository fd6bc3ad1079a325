-- `graph_sheet::joins::row_count` meets its contract: the vertices before position y are counted.
use mathlib.Core.Path.{◌≡◌}
use Rattle.sets.specs.Below.{count}
use Rattle.vset.specs.Words.{has}
use Rattle.dimacs.specs.Made.{joined}
use Rattle.graph_sheet.specs.Pairs.{joined_in}
use Rattle.graph_sheet.proofs.joins.row_count.Given as goal

abbrev pub invariant-loop-y : goal.invariant-loop-y
invariant-loop-y l =
    l.m ≡ count l.y (joined_in (joined l.n (has l.codes)) l.p l.x)
