-- `vset::remove` meets its contract. The word that is stored keeps the set without v, and the other words do not have v.
use Rattle.std.proofs.Common.{◌/◌, ◌%◌, arith}
use mathlib.Core.Bool.{and-true}
use Rattle.sets.specs.Sets.{◌∖◌, just}
use Rattle.vset.specs.Words.{has}
use Rattle.vset.proofs.Words.{row_set, word_has, word_just, word_cut, just_other, one_lt}
use Rattle.vset.proofs.remove.Goals as goal

pub returns : goal.returns
unfolding ◌∖◌
returns c =
    let v = c.args.v in
    let ws = c.args.row.now in
    row_set ws (v / 64) _ (has ws ∖ just v) (omega arith)
    (word_cut (word_has ws (v / 64)) (word_just v) (one_lt (v % 64) (omega arith)))
    (λ u n. rw (just_other v u n, and-true))
