-- Numbers as bytes, little-endian, as many bytes each as the width w.
use Rattle.std.specs.Prelude.{◌≡◌, List, ℕ, ◌/◌, ◌%◌, ◌^◌, get_or, map}
use Rattle.std.proofs.Common.{sym, ap}
use Rattle.std.proofs.lemmas.List.{map-id}
use Rattle.sets.specs.Below.{tabulate}

-- byte i of numbers, and 0 past them
unfoldable pub byte_at : ℕ → List ℕ → ℕ → ℕ
byte_at w numbers i = get_or numbers (i / w) 0 / 256 ^ (i % w) % 256

-- the first `room` of their bytes
unfoldable pub number_bytes : ℕ → List ℕ → ℕ → List ℕ
number_bytes w numbers room = tabulate room (byte_at w numbers)

-- numbers are their own values
pub same_values : (w : ℕ) (numbers : List ℕ) (room : ℕ) → number_bytes w numbers room ≡ number_bytes w (map (λ x. x) numbers) room
same_values w numbers room = ap (λ l. number_bytes w l room) (sym (map-id numbers))
