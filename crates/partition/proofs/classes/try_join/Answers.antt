-- `partition::classes::try_join` meets its contract. The row of v against the row of the class says whether v is
-- adjacent to none in it.
use Rattle.std.proofs.Common.{sym, ◌∙◌, arith}
use Rattle.partition.proofs.Members.{free_is}
use Rattle.partition.proofs.Filling.{join_none, join_placed, join_barred, left_out, taken_in}
use Rattle.partition.proofs.classes.try_join.Goals as goal

pub returns-then-v-n : goal.returns-then-v-n
returns-then-v-n c =
    left_out (λ adj R e. join_none _ _ adj _ _ _ (omega arith))

pub returns-then-from-k : goal.returns-then-from-k
returns-then-from-k c =
    left_out (λ adj R e. join_placed _ _ adj _ _ _ (λ q. c.if-from-k.true (c.from.ensures ∙ q)))

pub returns-then-not-is_empty_common : goal.returns-then-not-is_empty_common
returns-then-not-is_empty_common c =
    let r = c.is_empty_common.result in
    left_out (λ adj R e. join_barred _ _ adj _ _ _ (sym
    (free_is _ _ _ _ c.if-v-n.false c.row_at-a.ensures.here R e c.is_empty_common.ensures)
    ∙ c.if-not-is_empty_common.true))

pub returns : goal.returns
returns c =
    let r = c.is_empty_common.result in
    taken_in c.if-v-n.false c.requires.1 (sym c.from.ensures ∙ c.if-from-k.false)
    (λ adj R e. sym (free_is _ _ _ _ c.if-v-n.false c.row_at-a.ensures.here R e c.is_empty_common.ensures)
    ∙ c.if-not-is_empty_common.false)
    c.take_in.ensures.0 c.take_in.ensures.1
