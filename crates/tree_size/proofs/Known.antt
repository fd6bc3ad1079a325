-- The size as the paper writes it, and small sizes.
use mathlib.Core.Path.{◌≡◌, refl, ◌∙◌}
use Prim.Native.Nat.{ℕ, ◌^◌}
use native.Mathlib.Nat.{pow-zero, pow-suc}
use native.Mathlib.Omega.{arith}
use Rattle.sets.specs.Below.{sum_to}
use Rattle.tree_size.specs.Size.{full, heaviest_nodes}
use Rattle.tree_size.specs.Known.{KnownSizes}

pub known_sizes : KnownSizes
unfolding heaviest_nodes full sum_to
known_sizes = record {
  one_link = λ m. omega (arith, pow-zero m);
  of_two_links = λ m. omega (arith, pow-zero m, once m);
  three_links = λ m. omega (arith, pow-zero m, once m);
  three_of_two = refl;
  four_of_two = refl;
  three_of_three = refl;
}
  where
    once : (m : ℕ) → m ^ 1 ≡ m
    once m = pow-suc m 0 ∙ rw pow-zero (omega arith)
