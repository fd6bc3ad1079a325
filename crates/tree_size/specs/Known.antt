-- The size as the paper writes it, and small sizes.
use Rattle.std.specs.Prelude.{◌≡◌, ℕ, ◌+◌, ◌^◌}
use Rattle.tree_size.specs.Size.{heaviest_nodes}

pub record KnownSizes : Type 0 where
  pub one_link : (m : ℕ) → heaviest_nodes 1 m ≡ 2
  pub of_two_links : (m : ℕ) → heaviest_nodes 2 m ≡ 2 + m
  pub three_links : (m : ℕ) → heaviest_nodes 3 m ≡ 2 + m + m ^ 2
  pub three_of_two : heaviest_nodes 3 2 ≡ 8
  pub four_of_two : heaviest_nodes 4 2 ≡ 16
  pub three_of_three : heaviest_nodes 3 3 ≡ 14
