-- Lists of rising numbers, and bytes written one row after another.
use Rattle.std.specs.Prelude.{Bool, cond, List, [], ◌∷◌, ◌++◌, ℕ, zero, suc}

-- the numbers below m at which the test holds, rising
unfoldable pub select : ℕ → (ℕ → Bool) → List ℕ
select zero p = []
select (suc m) p = select m p ++ cond (p m) (m ∷ []) []

-- f at each number of a list, one after another
unfoldable pub for_each : (ℕ → List ℕ) → List ℕ → List ℕ
for_each f [] = []
for_each f (z ∷ zs) = f z ++ for_each f zs

-- f at 0, then at 1, .. at m - 1, one after another
unfoldable pub join_to : ℕ → (ℕ → List ℕ) → List ℕ
join_to zero f = []
join_to (suc m) f = join_to m f ++ f m
