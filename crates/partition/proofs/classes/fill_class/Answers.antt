use Rattle.std.proofs.Common.{rules, refl, arith}
use Rattle.partition.proofs.Filling.{filling_none, filling_more, filling_all, room_stays}
use Rattle.partition.proofs.classes.fill_class.Goals as goal

pub loop-i-init : goal.loop-i-init
loop-i-init c =
    filling_none c.clear.ensures c.requires.1

pub loop-i-preserved : goal.loop-i-preserved
loop-i-preserved c =
    filling_more c.loop-i.invariant (room_stays c.clear.ensures.rest c.requires.0) c.requires.2 c.loop-i-test.true
    refl c.try_join.ensures (search rules)

pub returns : goal.returns
returns c =
    filling_all c.loop-i.invariant (room_stays c.clear.ensures.rest c.requires.0) c.requires.2 (omega arith)
    c.clear.ensures.rest
