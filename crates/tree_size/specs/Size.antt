-- How many nodes the largest tree over k classes of m vertices has.
use Rattle.std.specs.Prelude.{ℕ, ◌+◌, ◌^◌}
use Rattle.sets.specs.Below.{sum_to}

-- the nodes at the depths below r, where each node has m below it: 1 + m + m² + .. + m^(r−1)
unfoldable pub full : ℕ → ℕ → ℕ
full m r = sum_to r (λ d. m ^ d)

-- "2 + m + m² + .. + m^(k−1) nodes, and 2 for k = 1": those at the depths below k, and the plan's
unfoldable pub heaviest_nodes : ℕ → ℕ → ℕ
heaviest_nodes k m = full m k + 1
