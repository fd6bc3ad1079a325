-- Vertices in buckets by their frequency, so that those on one frequency are found without a look at all others.
use Rattle.std.specs.Prelude.{◌≡◌, ◌&&◌, List, ℕ, ◌*◌, ◌/◌, ◌%◌, ◌<◌, ltb, eqb, length}
use Rattle.sets.specs.Sets.{Set, ◌∖◌}
use Rattle.sheet_rows.specs.Rows.{freq}
use Rattle.rows.specs.Rows.{row_at}

-- the buckets, and the most words of one: a bit for each of 1,024 vertices
abbrev pub buckets : ℕ
buckets = 128

abbrev pub most_wide : ℕ
most_wide = 16

-- the bucket of a frequency. The factor is near 65,536 divided by the golden ratio: the frequencies of a raster are
-- spread, whatever its step
unfoldable pub bucket_of : ℕ → ℕ
bucket_of x = x % 65536 * 40503 % 65536 / 512

-- the vertices below m of bucket b
unfoldable pub bucket : List ℕ → ℕ → ℕ → Set
bucket fs m b v = ltb v m && eqb (bucket_of (freq fs v)) b

-- the table holds the buckets of the first m vertices, each of `wide` words
pub record Filed (fs : List ℕ) (m wide : ℕ) (p : List ℕ) : Type 0 where
  pub size : length p ≡ buckets * most_wide
  pub rows : (b : ℕ) → b < buckets → row_at p wide 0 b ≡ bucket fs m b

-- the vertices on the frequency x, and those below n
unfoldable pub sharing : List ℕ → ℕ → Set
sharing fs x v = eqb (freq fs v) x

unfoldable pub on_freq : List ℕ → ℕ → ℕ → Set
on_freq fs n x v = ltb v n && sharing fs x v

-- row u without the vertices on its frequency
abbrev pub separated : List ℕ → ℕ → ℕ → Set → Set
separated fs n u S = S ∖ on_freq fs n (freq fs u)
