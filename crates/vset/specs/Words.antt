-- Sets of vertices in 64-bit words: "Sets of vertices are 64-bit words, one bit a vertex".
use Rattle.std.specs.Prelude.{ℕ, ◌+◌, ◌*◌, ◌/◌, ◌%◌, ◌^◌, ◌≤◌, ◌<◌, Bool, true, false, ◌≡◌, List, eqb, get_or}
use Rattle.sets.specs.Sets.{Set}

-- bit k of the word w
unfoldable pub bit : ℕ → Set
bit w k = eqb (w / 2 ^ k % 2) 1

-- the set that a row of words keeps: vertex v is bit v % 64 of word v / 64
unfoldable pub has : List ℕ → Set
has ws v = bit (get_or ws (v / 64) 0) (v % 64)

-- the word x keeps part i of S, the vertices from 64 * i to 64 * i + 63
pub record Word (S : Set) (i x : ℕ) : Type 0 where
  pub at : (k : ℕ) → k < 64 → S (64 * i + k) ≡ bit x k

-- of n words that P tells, each keeps its part of S
abbrev pub Kept : Set → ℕ → (ℕ → ℕ → Type 0) → Type 0
Kept S n P = (i x : ℕ) → i < n → P i x → x < 2 ^ 64 → Word S i x

-- S has no member from a up to b
abbrev pub None : Set → ℕ → ℕ → Type 0
None S a b = (v : ℕ) → a ≤ v → v < b → S v ≡ false

-- r is the least member of S from `from` on, below n; or n, where there is none ("trailing zeros give the next vertex")
pub record Least (S : Set) (from n r : ℕ) : Type 0 where
  pub after : from ≤ r
  pub within : r ≤ n
  pub none : None S from r
  pub found : r < n → S r ≡ true

-- r says whether S is empty; where it is not, there is a member
pub record Emptiness (S : Set) (r : Bool) : Type 0 where
  pub empty : r ≡ true → (v : ℕ) → S v ≡ false
  pub some : r ≡ false → (v : ℕ) × (S v ≡ true)
