-- Rows inside one part of the work words: "Sets of vertices are 64-bit words, one bit a vertex", a set in w words of it
-- from a place on.
use Rattle.std.specs.Prelude.{◌≡◌, List, ℕ, ◌+◌, ◌*◌, ◌^◌, ◌≤◌, ◌<◌, length, get_or, take, drop}
use Rattle.sets.specs.Sets.{Set}
use Rattle.vset.specs.Words.{has}

-- the set in the w words from a on
unfoldable pub set_at : List ℕ → ℕ → ℕ → Set
set_at p w a = has (take w (drop a p))

-- row v of the rows of w words that begin at `at`
abbrev pub row_at : List ℕ → ℕ → ℕ → ℕ → Set
row_at p w at v = set_at p w (at + v * w)

-- r is where row v begins, of n rows of w words from `at` on
pub record Begins (at w v n r : ℕ) : Type 0 where
  pub here : r ≡ at + v * w
  pub inside : r + w ≤ at + n * w

-- the words from lo up to hi may have changed, and no others
pub record Outside (lo hi : ℕ) (p p' : List ℕ) : Type 0 where
  pub len : length p' ≡ length p
  pub same : (j : ℕ) → (lo ≤ j → j < hi → ⊥) → get_or p' j 0 ≡ get_or p j 0

-- the row at a may be read while the row at `to` is written word by word: it begins there or later, or ends before it
pub record Reads (w to a len : ℕ) : Type 0 where
  pub fits : a + w ≤ len
  pub clear : a < to → a + w ≤ to

-- of the row at `to` the first i words are what P says of the words of the rows at a and b, and no other word has changed
pub record Combined (P : ℕ → ℕ → ℕ → Type 0) (to a b : ℕ) (p p' : List ℕ) (i : ℕ) : Type 0 where
  pub past : (j : ℕ) → j < i → P (get_or p (a + j) 0) (get_or p (b + j) 0) (get_or p' (to + j) 0)
  pub small : (j : ℕ) → j < i → get_or p (b + j) 0 < 2 ^ 64
  pub rest : Outside to (to + i) p p'

-- S was written to the row at `to`, and nothing else was
pub record Put (S : Set) (w to : ℕ) (p p' : List ℕ) : Type 0 where
  pub here : set_at p' w to ≡ S
  pub rest : Outside to (to + w) p p'
