-- Where adjacency rows lie in the work words.
use Rattle.std.specs.Prelude.{ℕ, ◌+◌, ◌*◌, ◌^◌, ◌≤◌, ◌<◌}

-- n rows of w words from `graph` on lie in `len` words
pub record RowsFit (w graph n len : ℕ) : Type 0 where
  pub wide : n ≤ 64 * w
  pub small : 64 * w < 2 ^ 64
  pub inside : graph + n * w ≤ len
