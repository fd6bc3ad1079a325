-- A number that is written in decimal is read back.
use mathlib.Core.Path.{◌≡◌, refl, ap, ◌∙◌}
use mathlib.Core.Bool.{true, false}
use mathlib.Core.List.{List, [], ◌∷◌, ◌++◌, append_assoc}
use Prim.Native.Nat.{ℕ, zero, suc, ◌+◌, ◌-◌, ◌*◌, ◌/◌, ◌%◌, ◌≤◌, ◌<◌}
use native.Mathlib.Omega.{arith}
use lib.Dec.{ltb, leb, eqb}
use borrow.Author.Tests.{le-leb, eq-eqb, eqb-true, ltb-true, ltb-false}
use Rattle.sets.proofs.Tests.{bool, case, clash, and_in}
use Rattle.lines.specs.Lines.{ascii, digits, decimal, ending, line}
use Rattle.lines.proofs.Decimals.{bound, digits_later}
use Rattle.dimacs.specs.Reading.{no_number, number, is_digit, digits_from, read_number, ended_by, field, space}
use Rattle.dimacs.specs.Reading.{newline}

digit_is : (b : ℕ) → 48 ≤ b → b ≤ 57 → is_digit b ≡ true
unfolding is_digit
digit_is b h g = and_in (le-leb 48 b h) (le-leb b 57 g)

-- a digit more
digits_more : (v d : ℕ) (later : List ℕ) → d < 10 → digits_from v ((48 + d) ∷ later) ≡ digits_from (10 * v + d) later
unfolding digits_from
digits_more v d later h = let e : 48 + d - 48 ≡ d = omega arith in
    rw (digit_is (48 + d) (omega arith) (omega arith), digits_from, e)

-- the digits of n are read as n
digits_read : (f n : ℕ) (later : List ℕ) → n < bound f → digits_from 0 (digits f n later) ≡ digits_from n later
unfolding digits
digits_read zero n later h = let e : n ≡ 0 = omega arith in rw e
digits_read (suc f) n later h = bool (ltb n 10)
    (λ e. let l = ltb-true n 10 e in let x : 10 * 0 + n % 10 ≡ n = omega arith in
    rw e (digits_more 0 (n % 10) later (omega arith) ∙ ap (λ y. digits_from y later) x))
    (λ e. let l = ltb-false n 10 e in let x : 10 * (n / 10) + n % 10 ≡ n = omega arith in
    rw e (digits_read f (n / 10) ((48 + n % 10) ∷ later) (omega arith)
    ∙ digits_more (n / 10) (n % 10) later (omega arith) ∙ ap (λ y. digits_from y later) x))

-- the first of them is not 0
abbrev Leads : List ℕ → Type 0
Leads [] = ⊥
Leads (b ∷ s) = (49 ≤ b) × (b ≤ 57)

digits_lead : (f n : ℕ) (later : List ℕ) → 0 < n → n < bound f → Leads (digits f n later)
unfolding digits
digits_lead zero n later o h = absurd (omega arith)
digits_lead (suc f) n later o h = bool (ltb n 10)
    (λ e. let l = ltb-true n 10 e in rw e (omega arith, omega arith))
    (λ e. let l = ltb-false n 10 e in rw e (digits_lead f (n / 10) ((48 + n % 10) ∷ later) (omega arith) (omega arith)))

lead_read : (l : List ℕ) → Leads l → read_number l ≡ digits_from 0 l
unfolding read_number
lead_read [] h = absurd h
lead_read (b ∷ s) h = case (λ r. r ≡ digits_from 0 (b ∷ s)) (eqb b 48) (number 0 s) _
    (λ e. let q = eqb-true b 48 e in absurd (omega (arith, h.0)))
    (λ _. case (λ r. r ≡ digits_from 0 (b ∷ s)) (is_digit b) (digits_from 0 (b ∷ s)) no_number (λ _. refl)
    (λ e. clash (is_digit b) (digit_is b (omega (arith, h.0)) h.1) e))

module _ (end : ℕ) (other : is_digit end ≡ false) where
  digits_end : (n : ℕ) (s : List ℕ) → digits_from n (end ∷ s) ≡ number n (end ∷ s)
  unfolding digits_from
  digits_end n s = rw (other, digits_from)

  zero_read : (s : List ℕ) → read_number (digits 20 0 (end ∷ s)) ≡ number 0 (end ∷ s)
  unfolding read_number digits
  zero_read s = refl

  pub decimal_read : (n : ℕ) (s : List ℕ) → n < bound 20 → read_number (decimal n ++ (end ∷ s)) ≡ number n (end ∷ s)
  unfolding decimal
  decimal_read n s h = rw (← digits_later 20 n [] (end ∷ s)) (bool (ltb 0 n)
      (λ e. lead_read (digits 20 n (end ∷ s)) (digits_lead 20 n (end ∷ s) (ltb-true 0 n e) h)
      ∙ digits_read 20 n (end ∷ s) h ∙ digits_end n s)
      (λ e. let z : n ≡ 0 = omega (arith, ltb-false 0 n e) in rw z (zero_read s)))

  -- a word, a number and the byte that ends it
  pub field_read : (w : List ℕ) (n : ℕ) (s : List ℕ) → n < bound 20
      → field w end (w ++ (decimal n ++ (end ∷ s))) ≡ number n s
  unfolding field ended_by
  field_read [] n s h = rw (decimal_read n s h, eq-eqb end end refl, ended_by)
  field_read (c ∷ w) n s h = rw (eq-eqb c c refl, field) (field_read w n s h)

pub space_other : is_digit space ≡ false
unfolding is_digit
space_other = refl

pub newline_other : is_digit newline ≡ false
unfolding is_digit
newline_other = refl

-- a line of two numbers after a word
pub line_is : (w : List ℕ) (a b : ℕ) (s : List ℕ)
    → line (w ++ decimal a) b ++ s ≡ w ++ (decimal a ++ (space ∷ (decimal b ++ (newline ∷ s))))
unfolding line ending ascii
line_is w a b s = simp append_assoc
