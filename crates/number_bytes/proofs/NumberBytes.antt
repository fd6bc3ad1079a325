-- Laws of numbers as bytes, over the width.
use Rattle.std.proofs.Common.{◌≡◌, sym, ap, ◌∙◌, List, ℕ, zero, suc, ◌+◌, ◌/◌, ◌%◌, ◌^◌, ◌<◌, ◌≤◌, length, get_or, map, true, arith}
use Rattle.std.specs.Int.{byte_at as digit, bytes_low_first, to_le_bytes, w64, is_in_range}
use native.Mathlib.Nat.{zero-div, div-one}
use Rattle.std.proofs.Math.ListN.{get_or-eq_default}
use Rattle.std.proofs.lemmas.List.{get_or-map, length-map}
use Rattle.std.proofs.lemmas.Bool.Decides.{nat_tests}
use Rattle.sets.proofs.Lists.{tabulate_same}
use Rattle.number_bytes.specs.NumberBytes.{byte_at, number_bytes}

digit_is : (i v : ℕ) → digit i v ≡ v / 256 ^ i % 256
digit_is zero v = ap (λ x. x % 256) (sym (div-one v))
digit_is (suc i) v = λ _. v / 256 ^ suc i % 256

low_byte : (i k v j : ℕ) → j < k → get_or (bytes_low_first i k v) j 0 ≡ v / 256 ^ (i + j) % 256
low_byte i zero v j h = absurd (omega arith)
low_byte i (suc k) v zero h = digit_is i v ∙ ap (λ e. v / 256 ^ e % 256) (omega arith)
low_byte i (suc k) v (suc j) h = low_byte (suc i) k v j (omega arith) ∙ ap (λ e. v / 256 ^ e % 256) (omega arith)

-- byte j of a number, of the eight that it is written as
pub byte_is : (v j : ℕ) → j < 8 → get_or (to_le_bytes w64 v) j 0 ≡ v / 256 ^ j % 256
byte_is v j h = low_byte 0 8 v j h ∙ ap (λ e. v / 256 ^ e % 256) (omega arith)

-- the byte that is read from the number x, where each has b bytes
pub byte_in : {X : Type 0} (value : X → ℕ) (w b : ℕ) (xs : List X) (i : ℕ) (x : X) (n : ℕ) → is_in_range 1 8 w ≡ true → b ≡ w
    → i / b < length xs → x ≡ get_or xs (i / b) x → n ≡ value x
    → get_or (to_le_bytes w64 n) (i % w) 0 ≡ byte_at w (map value xs) i
unfolding byte_at
byte_in value w b xs i x n r e h at is =
    let within : (1 ≤ w) × (w ≤ 8) = grind (arith, nat_tests) in
    byte_is n (i % w) (omega arith)
    ∙ ap (λ m. m / 256 ^ (i % w) % 256) (is ∙ ap value (rw e at at) ∙ sym (get_or-map value xs (i / w) x 0 (rw e at h)))

-- past the last number
pub byte_past : {X : Type 0} (value : X → ℕ) (w b : ℕ) (xs : List X) (i : ℕ) → b ≡ w → length xs ≤ i / b → byte_at w (map value xs) i ≡ 0
unfolding byte_at
byte_past value w b xs i e h =
    let past : length (map value xs) ≤ i / w = rw (length-map, ← e) h in
    rw (get_or-eq_default (map value xs) 0 past, zero-div)

-- numbers that are the same wherever they are read have the same bytes
pub same_bytes : (w room : ℕ) (a b : List ℕ) → ((i : ℕ) → get_or a i 0 ≡ get_or b i 0)
    → number_bytes w a room ≡ number_bytes w b room
unfolding number_bytes byte_at
same_bytes w room a b e =
    tabulate_same room (byte_at w a) (byte_at w b) (λ i l. ap (λ v. v / 256 ^ (i % w) % 256) (e (i / w)))
