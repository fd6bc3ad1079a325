-- Laws of a word's bits.
use Rattle.std.proofs.Common.{ℕ, zero, suc, ◌+◌, ◌-◌, ◌/◌, ◌%◌, ◌^◌, ◌≤◌, ◌<◌, min, max, true, false, not, ◌&&◌, ◌||◌, ◌≡◌, refl, sym, ap, ◌∙◌, ◌⊎◌, inl, inr, pow-suc, div-one, lt_of_lt_of_le, one-add, arith, eqb, shr-shr, pow_pos, pow_mono}
use native.Mathlib.Nat.{zero-div, div-eq_of_lt}
use lib.Dec.{eqb-suc-zero, eqb-zero-suc, eqb-suc-suc}
use lib.Count.{count_trailing_zeros, trailing_le}
use lib.Bits.{bit_and, bit_or, and_step, or_step, and_shr, or_shr}
use Rattle.vset.specs.Words.{bit}

-- a digit

digit : (p : ℕ) → p < 2 → (p ≡ 0) ⊎ (p ≡ 1)
digit zero h = inl refl
digit (suc zero) h = inr refl
digit (suc (suc p)) h = absurd (omega arith)

min_digits : (p q : ℕ) → (p ≡ 0) ⊎ (p ≡ 1) → (q ≡ 0) ⊎ (q ≡ 1) → eqb (min p q) 1 ≡ eqb p 1 && eqb q 1
min_digits p q (inl e) (inl f) = rw (e, f)
min_digits p q (inl e) (inr f) = rw (e, f)
min_digits p q (inr e) (inl f) = rw (e, f)
min_digits p q (inr e) (inr f) = rw (e, f)

max_digits : (p q : ℕ) → (p ≡ 0) ⊎ (p ≡ 1) → (q ≡ 0) ⊎ (q ≡ 1) → eqb (max p q) 1 ≡ eqb p 1 || eqb q 1
max_digits p q (inl e) (inl f) = rw (e, f)
max_digits p q (inl e) (inr f) = rw (e, f)
max_digits p q (inr e) (inl f) = rw (e, f)
max_digits p q (inr e) (inr f) = rw (e, f)

not_digit : (p : ℕ) → (p ≡ 0) ⊎ (p ≡ 1) → eqb (1 - p) 1 ≡ not (eqb p 1)
not_digit p (inl e) = rw e
not_digit p (inr e) = rw e

pub low : (x : ℕ) → (x % 2 ≡ 0) ⊎ (x % 2 ≡ 1)
low x = digit (x % 2) (omega arith)

-- a bit, lowest first

pub bit_zero : (w : ℕ) → bit w 0 ≡ eqb (w % 2) 1
unfolding bit
bit_zero w = rw div-one

pub bit_shr : (w s k : ℕ) → bit (w / 2 ^ s) k ≡ bit w (s + k)
unfolding bit
bit_shr w s k = rw shr-shr

pub bit_suc : (w k : ℕ) → bit w (suc k) ≡ bit (w / 2) k
bit_suc w k = sym (bit_shr w 1 k ∙ ap (bit w) (one-add k))

pub bit_none : (k : ℕ) → bit 0 k ≡ false
unfolding bit
bit_none k = rw zero-div

-- no bit past the width of the word
pub bit_high : (n w k : ℕ) → w < 2 ^ n → n ≤ k → bit w k ≡ false
unfolding bit
bit_high n w k h l = rw (div-eq_of_lt (lt_of_lt_of_le h (pow_mono l)))

-- the operations on words

pub bit_of_and : (a b k : ℕ) → bit (bit_and a b) k ≡ bit a k && bit b k
unfolding bit
bit_of_and a b k =
    let x = a / 2 ^ k in
    let y = b / 2 ^ k in
    let e : bit_and x y % 2 ≡ min (x % 2) (y % 2) = omega (arith, and_step x y) in
    rw (and_shr, e) (min_digits (x % 2) (y % 2) (low x) (low y))

pub bit_of_or : (a b k : ℕ) → bit (bit_or a b) k ≡ bit a k || bit b k
unfolding bit
bit_of_or a b k =
    let x = a / 2 ^ k in
    let y = b / 2 ^ k in
    let e : bit_or x y % 2 ≡ max (x % 2) (y % 2) = omega (arith, or_step x y) in
    rw (or_shr, e) (max_digits (x % 2) (y % 2) (low x) (low y))

-- the complement of a word of n bits
pub bit_not : (n a k : ℕ) → a < 2 ^ n → k < n → bit ((2 ^ n - 1) - a) k ≡ not (bit a k)
bit_not zero a k h l = absurd (omega arith)
bit_not (suc n) a zero h l =
    let p = pow-suc 2 n in
    let e : ((2 ^ suc n - 1) - a) % 2 ≡ 1 - a % 2 = omega (arith, pow_pos n) in
    rw (bit_zero, e) (rw bit_zero (not_digit (a % 2) (low a)))
bit_not (suc n) a (suc k) h l =
    let p = pow-suc 2 n in
    let e : ((2 ^ suc n - 1) - a) / 2 ≡ (2 ^ n - 1) - a / 2 = omega (arith, pow_pos n) in
    rw (bit_suc, e) (rw bit_suc (bit_not n (a / 2) k (omega arith) (omega arith)))

-- the word with bit n alone
pub bit_one : (n k : ℕ) → bit (2 ^ n) k ≡ eqb k n
bit_one zero zero = rw bit_zero
bit_one zero (suc k) = rw (bit_suc, eqb-suc-zero) (bit_none k)
bit_one (suc n) zero =
    let e : 2 ^ suc n % 2 ≡ 0 = omega (arith, pow-suc 2 n) in
    rw (bit_zero, eqb-zero-suc, e)
bit_one (suc n) (suc k) =
    let e : 2 ^ suc n / 2 ≡ 2 ^ n = omega (arith, pow-suc 2 n) in
    rw (bit_suc, eqb-suc-suc, e) (bit_one n k)

-- the lowest set bit

trailing_even : (n w : ℕ) → w % 2 ≡ 0 → count_trailing_zeros (suc n) w ≡ suc (count_trailing_zeros n (w / 2))
unfolding count_trailing_zeros
trailing_even n w e = rw e

trailing_odd : (n w : ℕ) → w % 2 ≡ 1 → count_trailing_zeros (suc n) w ≡ 0
unfolding count_trailing_zeros
trailing_odd n w e = rw e

-- below the lowest set bit no bit is set
pub trailing_below : (n w j : ℕ) → j < count_trailing_zeros n w → bit w j ≡ false
trailing_below zero w j h = absurd (omega (arith, trailing_le 0 w))
trailing_below (suc n) w zero h = go (low w)
  where
    go : (w % 2 ≡ 0) ⊎ (w % 2 ≡ 1) → bit w 0 ≡ false
    go (inl e) = rw (bit_zero, e)
    go (inr e) = absurd (omega (arith, trailing_odd n w e))
trailing_below (suc n) w (suc j) h = rw bit_suc (trailing_below n (w / 2) j (go (low w)))
  where
    go : (w % 2 ≡ 0) ⊎ (w % 2 ≡ 1) → j < count_trailing_zeros n (w / 2)
    go (inl e) = omega (arith, trailing_even n w e)
    go (inr e) = absurd (omega (arith, trailing_odd n w e))

-- it is set, where there is one
pub trailing_at : (n w : ℕ) → count_trailing_zeros n w < n → bit w (count_trailing_zeros n w) ≡ true
trailing_at zero w h = absurd (omega arith)
trailing_at (suc n) w h = go (trailing_at n (w / 2)) (low w)
  where
    go : (count_trailing_zeros n (w / 2) < n → bit (w / 2) (count_trailing_zeros n (w / 2)) ≡ true) → (w % 2 ≡ 0) ⊎ (w % 2 ≡ 1)
        → bit w (count_trailing_zeros (suc n) w) ≡ true
    go ih (inl e) = rw (trailing_even n w e, bit_suc) (ih (omega (arith, trailing_even n w e)))
    go ih (inr e) = rw (trailing_odd n w e, bit_zero, e)

-- and a word that is not 0 has one
pub trailing_lt : (n w : ℕ) → w < 2 ^ n → (w ≡ 0 → ⊥) → count_trailing_zeros n w < n
trailing_lt zero w h ne = absurd (ne (omega arith))
trailing_lt (suc n) w h ne = go (trailing_lt n (w / 2)) (low w)
  where
    go : (w / 2 < 2 ^ n → (w / 2 ≡ 0 → ⊥) → count_trailing_zeros n (w / 2) < n) → (w % 2 ≡ 0) ⊎ (w % 2 ≡ 1)
        → count_trailing_zeros (suc n) w < suc n
    go ih (inl e) = omega (arith, trailing_even n w e, ih (omega (arith, pow-suc 2 n)) (λ q. ne (omega arith)))
    go ih (inr e) = omega (arith, trailing_odd n w e)
