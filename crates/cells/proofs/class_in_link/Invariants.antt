-- `cells::class_in_link` meets its contract: none of the classes passed has its vertex in the link.
use Rattle.std.proofs.Common.{◌≡◌, false}
use Rattle.sets.specs.Below.{any}
use Rattle.cells.proofs.Links.{is_here}
use Rattle.cells.proofs.class_in_link.Given as goal

abbrev pub invariant-loop-c : goal.invariant-loop-c
invariant-loop-c l =
    any l.c (is_here l.sheet l.chosen l.l) ≡ false
