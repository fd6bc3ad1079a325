-- Numbers in decimal: the digits of n are those of n / 10 and the last, and a 32-bit number has at most ten.
use Rattle.std.proofs.Common.{◌≡◌, refl, sym, ap, ◌∙◌, Bool, true, false, cond, List, [], ◌∷◌, ◌++◌, ℕ, zero, suc, ◌+◌, ◌*◌, ◌/◌, ◌%◌, ◌^◌, ◌≤◌, ◌<◌, arith, ltb, length, length-append, lt-ltb, le-ltb}
use Rattle.lines.specs.Lines.{digits, decimal}

-- numbers of at most f digits are below this
abbrev pub bound : ℕ → ℕ
bound zero = 1
bound (suc f) = 10 * bound f

pub digits_later : (f n : ℕ) (l m : List ℕ) → digits f n (l ++ m) ≡ digits f n l ++ m
unfolding digits
digits_later zero n l m = refl
digits_later (suc f) n l m =
    go (ltb n 10) _ (digits f (n / 10) ((48 + n % 10) ∷ l)) (digits_later f (n / 10) ((48 + n % 10) ∷ l) m)
  where
    go : (b : Bool) (x y : List ℕ) → x ≡ y ++ m
        → cond b ((48 + n % 10) ∷ (l ++ m)) x ≡ cond b ((48 + n % 10) ∷ l) y ++ m
    go true x y e = refl
    go false x y e = e

-- fuel beyond the digits changes nothing
digits_fuel : (f n : ℕ) (l : List ℕ) → n < bound (suc f) → digits (suc (suc f)) n l ≡ digits (suc f) n l
unfolding digits
digits_fuel zero n l h =
    ap (λ b. cond b ((48 + n % 10) ∷ l) (digits 1 (n / 10) ((48 + n % 10) ∷ l))) e
    ∙ sym (ap (λ b. cond b ((48 + n % 10) ∷ l) ((48 + n % 10) ∷ l)) e)
  where
    e : ltb n 10 ≡ true
    e = lt-ltb n 10 (omega arith)
digits_fuel (suc f) n l h =
    ap (λ x. cond (ltb n 10) ((48 + n % 10) ∷ l) x) (digits_fuel f (n / 10) ((48 + n % 10) ∷ l) (omega arith))

digits_few : (f g n : ℕ) (l : List ℕ) → n < bound (suc g) → length (digits f n l) ≤ suc g + length l
unfolding digits
digits_few zero g n l h = omega arith
digits_few (suc f) zero n l h = rw (lt-ltb n 10 (omega arith)) (omega arith)
digits_few (suc f) (suc g) n l h =
    go (ltb n 10) (digits f (n / 10) ((48 + n % 10) ∷ l)) (digits_few f g (n / 10) ((48 + n % 10) ∷ l) (omega arith))
  where
    go : (b : Bool) (m : List ℕ) → length m ≤ suc g + length ((48 + n % 10) ∷ l)
        → length (cond b ((48 + n % 10) ∷ l) m) ≤ suc (suc g) + length l
    go true m e = omega arith
    go false m e = omega arith

pub decimal_one : (n : ℕ) → n < 10 → decimal n ≡ (48 + n) ∷ []
unfolding decimal digits
decimal_one n h =
    ap (λ b. cond b ((48 + n % 10) ∷ []) (digits 19 (n / 10) ((48 + n % 10) ∷ []))) (lt-ltb n 10 h)
    ∙ ap (λ m. (48 + m) ∷ []) (omega arith)

pub decimal_more : (n : ℕ) → 10 ≤ n → n < 2 ^ 32 → decimal n ≡ decimal (n / 10) ++ ((48 + n % 10) ∷ [])
unfolding decimal digits
decimal_more n h m =
    ap (λ b. cond b ((48 + n % 10) ∷ []) (digits 19 (n / 10) ((48 + n % 10) ∷ []))) (le-ltb n 10 h)
    ∙ digits_later 19 (n / 10) [] ((48 + n % 10) ∷ [])
    ∙ ap (λ l. l ++ ((48 + n % 10) ∷ [])) (sym (digits_fuel 18 (n / 10) [] (omega arith)))

pub decimal_two : (n : ℕ) → 10 ≤ n → n < 100 → decimal n ≡ (48 + n / 10) ∷ (48 + n % 10) ∷ []
decimal_two n h g =
    decimal_more n h (omega arith) ∙ ap (λ l. l ++ ((48 + n % 10) ∷ [])) (decimal_one (n / 10) (omega arith))

pub decimal_three : (n : ℕ) → 100 ≤ n → n < 1000
    → decimal n ≡ (48 + n / 100) ∷ (48 + n / 10 % 10) ∷ (48 + n % 10) ∷ []
decimal_three n h g =
    let e : n / 10 / 10 ≡ n / 100 = omega arith in
    decimal_more n (omega arith) (omega arith)
    ∙ ap (λ l. l ++ ((48 + n % 10) ∷ [])) (decimal_two (n / 10) (omega arith) (omega arith))
    ∙ ap (λ m. (48 + m) ∷ (48 + n / 10 % 10) ∷ (48 + n % 10) ∷ []) e

-- one digit more
pub decimal_length : (n : ℕ) → 10 ≤ n → n < 2 ^ 32 → length (decimal n) ≡ length (decimal (n / 10)) + 1
decimal_length n h m = ap length (decimal_more n h m) ∙ length-append (decimal (n / 10)) ((48 + n % 10) ∷ [])

pub decimal_few : (n : ℕ) → n < 2 ^ 32 → length (decimal n) ≤ 10
unfolding decimal
decimal_few n h = digits_few 20 9 n [] (omega arith)
