-- `partition::classes::keep_classes` meets its contract. The invariant: the classes below v are written.
use Rattle.std.proofs.Common.{length}
use Rattle.partition.specs.Partition.{class_of}
use Rattle.partition.proofs.Order.{Writing}
use Rattle.partition.proofs.classes.keep_classes.Given as goal

abbrev pub invariant-loop-v : goal.invariant-loop-v
invariant-loop-v l =
    Writing (class_of l.cls) (length l.cls) l.initial.part l.part l.v
