-- `vset::next_by` meets its contract: there is no member from `from` up to the word i.
use Rattle.std.proofs.Common.{◌≤◌, ◌*◌}
use Rattle.sets.specs.Sets.{Set}
use Rattle.vset.specs.Words.{Kept, None}
use Rattle.vset.proofs.next_by.Given as goal

abbrev pub invariant-loop-i : goal.invariant-loop-i
invariant-loop-i g l =
    (l.from ≤ 64 * l.i) × ((S : Set) → Kept S l.n (goal.F-post g l.word) → None S l.from (64 * l.i))
