-- `vset::size_by` meets its contract: what is counted are the members in the words below i.
use Rattle.std.proofs.Common.{◌≡◌, ◌≤◌, ◌*◌}
use Rattle.sets.specs.Below.{count}
use Rattle.sets.specs.Sets.{Set}
use Rattle.vset.specs.Words.{Kept}
use Rattle.vset.proofs.size_by.Given as goal

abbrev pub invariant-loop-i : goal.invariant-loop-i
invariant-loop-i g l =
    (l.members ≤ 64 * l.i) × ((S : Set) → Kept S l.n (goal.F-post g l.word) → l.members ≡ count (64 * l.i) S)
