-- `partition::masks::put_masks` meets its contract. The invariant: the rows are the masks of the vertices below v.
use Rattle.partition.specs.Words.{Masks}
use Rattle.partition.proofs.masks.put_masks.Given as goal

abbrev pub invariant-loop-v : goal.invariant-loop-v
invariant-loop-v l =
    Masks l.v l.place.k l.cls l.place.w l.at l.initial.part l.part
