-- A set of numbers is a test: `S v` says whether v is in S. A strike is an intersection with a test.
use Rattle.std.specs.Prelude.{◌≡◌, Bool, true, not, ◌&&◌, ◌||◌, false, ℕ, eqb, ltb}

abbrev pub Set : Type 0
Set = ℕ → Bool

infix 40 ◌⊆◌
infixl 44 ◌∪◌
infixl 45 ◌∩◌
infixl 45 ◌∖◌
abbrev pub ◌⊆◌ : Set → Set → Type 0
S ⊆ T = (v : ℕ) → S v ≡ true → T v ≡ true

unfoldable pub ◌∩◌ : Set → Set → Set
(S ∩ T) v = S v && T v

unfoldable pub ◌∪◌ : Set → Set → Set
(S ∪ T) v = S v || T v

unfoldable pub ◌∖◌ : Set → Set → Set
(S ∖ T) v = S v && not (T v)

-- the set without a member, the set of a alone, the set of the numbers below n
unfoldable pub nothing : Set
nothing v = false

unfoldable pub just : ℕ → Set
just a v = eqb v a

unfoldable pub whole : ℕ → Set
whole n v = ltb v n
