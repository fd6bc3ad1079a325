-- The class list of a setting.
use Rattle.std.specs.Prelude.{cond, List, ℕ, eqb, take}

-- "The class list handed to the search is part of either the caller's list or the built one": the n classes of the one
-- that the choice names
unfoldable pub class_list : ℕ → List ℕ → List ℕ → ℕ → List ℕ
class_list choice callers made n = cond (eqb choice 2) (take n callers) (take n made)
