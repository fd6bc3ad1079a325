-- `vset::insert` meets its contract. The word that is stored keeps the set with v, and the other words do not have v.
use Rattle.std.proofs.Common.{◌/◌, arith}
use mathlib.Core.Bool.{or-false}
use Rattle.sets.specs.Sets.{◌∪◌, just}
use Rattle.vset.specs.Words.{has}
use Rattle.vset.proofs.Words.{row_set, word_has, word_just, word_join, just_other}
use Rattle.vset.proofs.insert.Goals as goal

pub returns : goal.returns
unfolding ◌∪◌
returns c =
    let v = c.args.v in
    let ws = c.args.row.now in
    row_set ws (v / 64) _ (has ws ∪ just v) (omega arith) (word_join (word_has ws (v / 64)) (word_just v))
    (λ u n. rw (just_other v u n, or-false))
