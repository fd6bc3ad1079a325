-- Tests, sums and searches over the numbers below a bound. The last number is on top, so that a loop's next turn is a
-- definition's next clause.
use Rattle.std.specs.Prelude.{Bool, true, false, ◌&&◌, ◌||◌, List, [], ◌∷◌, ◌++◌, ℕ, zero, suc, ◌+◌, eqb}

-- the test holds at each number below m
unfoldable pub all : ℕ → (ℕ → Bool) → Bool
all zero p = true
all (suc m) p = all m p && p m

-- the test holds at some number below m
unfoldable pub any : ℕ → (ℕ → Bool) → Bool
any zero p = false
any (suc m) p = any m p || p m

-- the lowest number below m at which the test holds, or m where there is none
unfoldable pub first : ℕ → (ℕ → Bool) → ℕ
first zero p = 0
first (suc m) p = elim (any m p) [ true ↦ first m p | false ↦ elim (p m) [ true ↦ m | false ↦ suc m ] ]

-- the sum of f at the numbers below m
unfoldable pub sum_to : ℕ → (ℕ → ℕ) → ℕ
sum_to zero f = 0
sum_to (suc m) f = sum_to m f + f m

abbrev pub one : Bool → ℕ
one true = 1
one false = 0

-- x where the test holds, 0 where not
abbrev pub given : Bool → ℕ → ℕ
given true x = x
given false x = 0

-- how many numbers below m the test holds at
unfoldable pub count : ℕ → (ℕ → Bool) → ℕ
count zero p = 0
count (suc m) p = one (p m) + count m p

-- f at 0, then at 1, .. at m - 1
unfoldable pub loop : {A : Type 0} → ℕ → (ℕ → A → A) → A → A
loop zero f a = a
loop (suc m) f a = f m (loop m f a)

-- f, with v at d
unfoldable pub replace : ℕ → ℕ → (ℕ → ℕ) → ℕ → ℕ
replace d v f j = elim (eqb j d) [ true ↦ v | false ↦ f j ]

-- f at 0, 1, .. m - 1, as a list
unfoldable pub tabulate : ℕ → (ℕ → ℕ) → List ℕ
tabulate zero f = []
tabulate (suc m) f = tabulate m f ++ (f m ∷ [])
