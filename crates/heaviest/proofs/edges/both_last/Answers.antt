-- `heaviest::edges::both_last` meets its contract.
use Rattle.std.proofs.Common.{rules}
use Rattle.heaviest.proofs.Kept.{last_not, last_both}
use Rattle.heaviest.proofs.edges.both_last.Goals as goal

pub returns-then-u-m : goal.returns-then-u-m
returns-then-u-m c =
    last_both _ _ _ c.if-u-m.true

pub returns-else-u-m : goal.returns-else-u-m
returns-else-u-m c =
    last_not _ _ _ (search rules) c.if-u-m.false
