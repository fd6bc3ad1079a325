-- `partition::classes::fill_classes` meets its contract. The invariant: c classes are filled.
use Rattle.partition.proofs.Filling.{FillingAll}
use Rattle.partition.proofs.classes.fill_classes.Given as goal

abbrev pub invariant-loop-c : goal.invariant-loop-c
invariant-loop-c l =
    FillingAll l.place l.m l.initial.part l.part l.cls l.c
