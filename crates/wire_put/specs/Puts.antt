-- Numbers of 32 bits, one after another.
use Rattle.std.specs.Prelude.{List, [], ◌∷◌, ◌++◌, ℕ}
use Rattle.wire.specs.Fields.{bytes32}

-- a number of 32 bits, under a name that does not unfold by itself
unfoldable pub full : ℕ → List ℕ
full x = bytes32 x

unfoldable pub fulls : List ℕ → List ℕ
fulls [] = []
fulls (x ∷ xs) = full x ++ fulls xs
