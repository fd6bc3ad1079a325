-- `pair_test::lists::lists_pair` meets its contract.
use Rattle.std.proofs.Common.{◌+◌, ◌≡◌, false}
use Rattle.sets.specs.Below.{any}
use Rattle.pair_test.specs.Pairs.{same_pair}
use Rattle.pair_test.proofs.lists.lists_pair.Given as goal

abbrev pub invariant-loop-i : goal.invariant-loop-i
invariant-loop-i l =
    any l.i (λ m. same_pair l.p l.x l.y (l.base + m)) ≡ false
