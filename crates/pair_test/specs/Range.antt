-- The range of the pair test in an accepted sheet.
use Rattle.std.specs.Prelude.{◌≡◌, true, List, ℕ}
use Rattle.spacing.specs.Spacing.{in_range}
use Rattle.pair_test.specs.Asked.{TwoAt, spare_in}

pub record SpareRange : Type 0 where
  pub within : (s : List ℕ) (a b u v : ℕ) → TwoAt s a b u v → in_range (spare_in s a b u v) ≡ true
