-- The sheet of the heaviest job of k links with m frequencies each, "which one is left free": the sheet that import
-- writes for the graph below.
use Rattle.std.specs.Prelude.{Bool, ◌&&◌, ◌||◌, List, ℕ, ◌+◌, ◌*◌, ◌/◌, ◌%◌, ltb, eqb}
use Rattle.sets.specs.Below.{tabulate}
use Rattle.sets.specs.Sets.{Set}
use Rattle.dimacs.specs.Made.{joined, sheet_of}

-- m vertices for each of k links: vertex v is at place v % m of link v / m
unfoldable pub links : ℕ → ℕ → List ℕ
links k m = tabulate k (λ l. m)

-- v is the last of its link
unfoldable pub is_last : ℕ → ℕ → Bool
is_last m v = eqb (v % m + 1) m

-- u of an earlier link and v are adjacent: v's link is not the last one; or each is the last of its link; or v is the
-- first of the last link, and u's link is not the one before it
unfoldable pub meets : ℕ → ℕ → ℕ → ℕ → Bool
meets k m u v = ltb (v / m + 1) k || ((is_last m u && is_last m v) || (ltb (u / m + 2) k && eqb (v % m) 0))

unfoldable pub is_edge : ℕ → ℕ → ℕ → ℕ → Bool
is_edge k m u v = ltb (u / m) (v / m) && meets k m u v

-- u and v of k * m vertices have the code u * (k * m) + v
unfoldable pub edges : ℕ → ℕ → Set
edges k m z = is_edge k m (z / (k * m)) (z % (k * m))

unfoldable pub graph : ℕ → ℕ → ℕ → ℕ → Bool
graph k m = joined (k * m) (edges k m)

unfoldable pub sheet : ℕ → ℕ → List ℕ
sheet k m = sheet_of (links k m) (graph k m)
