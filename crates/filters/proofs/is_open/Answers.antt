use Rattle.std.proofs.Common.{add-one, arith}
use Rattle.sets.proofs.Tests.{below}
use Rattle.filters.proofs.Masks.{all_seen, one_empty}
use Rattle.filters.proofs.is_open.Goals as goal

pub returns-then-is_empty_common : goal.returns-then-is_empty_common
returns-then-is_empty_common c G N =
    one_empty N c.loop-c.c c.loop-c.auto.c c.loop-c-test.true
    (rw c.row_at-m.ensures.here at (c.is_empty_common.ensures.empty c.if-is_empty_common.true))

pub loop-c-preserved : goal.loop-c-preserved
loop-c-preserved c =
    let t = rw c.row_at-m.ensures.here at (c.is_empty_common.ensures.some c.if-is_empty_common.false) in
    λ x a b. below x c.loop-c.c (rw add-one at b) (c.loop-c.invariant x a) (λ e. rw e t)

pub returns : goal.returns
returns c G N =
    all_seen N (λ x a b. c.loop-c.invariant x a (omega arith))
