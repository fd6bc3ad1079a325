-- The table of a plan: what each pair of its links has to spare, row by row.
use Rattle.std.specs.Prelude.{ℕ, ◌*◌, ◌/◌, ◌%◌, ◌<◌, ◌≡◌, cond, List, eqb, ltb, ℤ, pos, length, get_or}
use Rattle.sheet.specs.Sheet.{k_of}
use Rattle.rules.specs.Asked.{cells_spare}

-- what the cells of links a and b have to spare: "the spare spacing of each pair of a plan". A link is no pair
unfoldable pub spare_of : List ℕ → List ℕ → ℕ → ℕ → ℤ
spare_of s cells a b = cond (eqb a b) (pos 0) (cells_spare s cells a b)

-- place i of the table: of k places a row, k rows, and zero past them
unfoldable pub spare_at : List ℕ → List ℕ → ℕ → ℤ
spare_at s cells i = cond (ltb i (k_of s * k_of s)) (spare_of s cells (i / k_of s) (i % k_of s)) (pos 0)

-- a list of `room` numbers has f at each place
pub record Tabled (f : ℕ → ℤ) (room : ℕ) (p : List ℤ) : Type 0 where
  pub size : length p ≡ room
  pub each : (i : ℕ) → i < room → get_or p i (pos 0) ≡ f i
