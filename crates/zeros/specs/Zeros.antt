-- So many zeros.
use Rattle.std.specs.Prelude.{List, ℕ, replicate, ◌≡◌, refl}

unfoldable pub zeros : ℕ → List ℕ
zeros m = replicate m 0

pub zeros_are : (m : ℕ) → zeros m ≡ replicate m 0
unfolding zeros
zeros_are m = refl
