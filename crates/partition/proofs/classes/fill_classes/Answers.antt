use Rattle.std.proofs.Common.{rules, arith}
use Rattle.partition.proofs.Filling.{filling_all_none, filling_all_more, filling_all_done}
use Rattle.partition.proofs.classes.fill_classes.Goals as goal

pub loop-c-init : goal.loop-c-init
loop-c-init c =
    filling_all_none (search rules) (rw c.requires.1 at (c.fill.ensures.after (λ y e. e)))

pub loop-c-preserved : goal.loop-c-preserved
loop-c-preserved c =
    filling_all_more c.loop-c.invariant c.requires.0 c.requires.2 (omega arith) c.fill_class.ensures (search rules)

pub returns : goal.returns
returns c =
    filling_all_done c.loop-c.invariant c.requires.0 c.requires.2 (omega arith)
