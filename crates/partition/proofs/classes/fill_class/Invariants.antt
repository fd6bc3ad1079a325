-- `partition::classes::fill_class` meets its contract. The invariant: the first i vertices of the order are taken or
-- left, and the row is the class.
use Rattle.partition.proofs.Filling.{Filling}
use Rattle.partition.proofs.classes.fill_class.Given as goal

abbrev pub invariant-loop-i : goal.invariant-loop-i
invariant-loop-i l =
    Filling l.place l.m l.c l.initial.part l.part l.initial.cls l.cls l.i
