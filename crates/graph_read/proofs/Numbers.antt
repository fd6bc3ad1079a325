-- Laws of the digits of a text, read byte by byte, and of the number at a place.
use Rattle.std.proofs.Common.{◌≡◌, refl, sym, ap, subst, ◌∙◌, Bool, true, false, Option, Some, None, List, [], ◌∷◌}
use Rattle.std.proofs.Common.{ℕ, suc, ◌+◌, ◌-◌, ◌*◌, ◌≤◌, ◌<◌, eqb, leb, add-one, arith, ne_eqb, leb-true}
use Rattle.std.proofs.Common.{length, drop, get_or, drop_of_length-le, drop-cons}
use Rattle.std.specs.Char.{is_ascii_digit}
use Rattle.std.proofs.lemmas.Option.{same_Some}
use Rattle.sets.proofs.Tests.{and_l, and_r}
use Rattle.dimacs.specs.Reading.{Number, no_number, number, is_digit, digits_from, read_number}
use Rattle.dimacs.proofs.Choices.{yes_is, no_is}
use Rattle.graph_read.specs.Read.{most_value, capped, Pushed, DigitsRead, got, Told}
use Rattle.graph_read.specs.declared.Digits.{Digits}

-- a digit, by the library's test
pub digit_is : {r x : Bool} (b : ℕ) → r ≡ is_ascii_digit b → r ≡ x → is_digit b ≡ x
unfolding is_digit
digit_is b e f = sym e ∙ f

pub digit_small : (b : ℕ) → is_digit b ≡ true → (48 ≤ b) × (b ≤ 57)
unfolding is_digit
digit_small b t = (leb-true 48 b (and_l (leb 48 b) (leb b 57) t), leb-true b 57 (and_r (leb 48 b) (leb b 57) t))

-- the value with a digit more
pub pushed_most : (value digit : ℕ) → 1000000000000000000 ≤ value → Pushed value digit most_value
unfolding capped
pushed_most value digit h = record { small = omega arith; more = λ v e. omega arith }

pub pushed_more : (value digit : ℕ) → value < 1000000000000000000 → digit < 10 → Pushed value digit (10 * value + digit)
unfolding capped
pushed_more value digit h g = record { small = omega arith; more = λ v e. omega arith }

-- the digits so far: those from `at` on, after `first`, are read as v, with the digits from i on to come
pub record SoFar (text : List ℕ) (at first i value : ℕ) : Type 0 where
  pub v : ℕ
  pub same : digits_from first (drop at text) ≡ digits_from v (drop i text)
  pub kept : value ≡ capped v

pub so_far_none : (text : List ℕ) (at first : ℕ) → first < 10 → SoFar text at first at first
unfolding capped
so_far_none text at first h = record { v = first; same = refl; kept = omega arith }

digits_turn : (v b : ℕ) (s : List ℕ) → is_digit b ≡ true → digits_from v (b ∷ s) ≡ digits_from (10 * v + (b - 48)) s
unfolding digits_from
digits_turn v b s t = yes_is (is_digit b) _ _ t

digits_end : (v b : ℕ) (s : List ℕ) → is_digit b ≡ false → digits_from v (b ∷ s) ≡ number v (b ∷ s)
unfolding digits_from
digits_end v b s t = no_is (is_digit b) _ _ t

digits_none : (v : ℕ) → digits_from v [] ≡ number v []
unfolding digits_from
digits_none v = refl

-- the digits from a byte on, with the byte taken off
digits_from_lem : (text : List ℕ) (i v : ℕ) → i < length text
    → digits_from v (drop i text) ≡ digits_from v (get_or text i 0 ∷ drop (suc i) text)
digits_from_lem text i v h = ap (digits_from v) (drop-cons text i 0 h)

pub so_far_more : {text : List ℕ} {at first i value r : ℕ} → SoFar text at first i value → i < length text
    → is_digit (get_or text i 0) ≡ true → Pushed value (get_or text i 0 - 48) r → SoFar text at first (i + 1) r
so_far_more {text} {at} {first} {i} p h t q = record {
  v = 10 * p.v + (get_or text i 0 - 48);
  same = p.same ∙ digits_from_lem text i p.v h ∙ digits_turn p.v (get_or text i 0) (drop (suc i) text) t
      ∙ rw add-one refl;
  kept = q.more p.v p.kept;
}

pub digits_stop : {text : List ℕ} {at first i value : ℕ} → SoFar text at first i value → i < length text
    → is_digit (get_or text i 0) ≡ false → DigitsRead text at first (record { value = value; next = i })
digits_stop {text} {at} {first} {i} p h t = record {
  v = p.v;
  read = p.same ∙ digits_from_lem text i p.v h ∙ digits_end p.v (get_or text i 0) (drop (suc i) text) t
      ∙ ap (number p.v) (sym (drop-cons text i 0 h));
  value = p.kept;
  within = omega arith;
}

pub digits_all : {text : List ℕ} {at first i value : ℕ} → SoFar text at first i value → i ≡ length text
    → DigitsRead text at first (record { value = value; next = length text })
digits_all {text} {at} {first} {i} p h = record {
  v = p.v;
  read = p.same ∙ ap (λ j. digits_from p.v (drop j text)) h ∙ ap (digits_from p.v) none ∙ digits_none p.v ∙ ap (number p.v) (sym none);
  value = p.kept;
  within = omega arith;
}
  where
    none : drop (length text) text ≡ []
    none = let l : length text ≤ length text = omega arith in drop_of_length-le text l

-- the number at a place

pub told_same : (text : List ℕ) (r : Option Digits) {m n : Number} → m ≡ n → Told text n r → Told text m r
told_same text r e t = subst (λ x. Told text x r) (sym e) t

number_turn : (b : ℕ) (s : List ℕ) → (b ≡ 48 → ⊥) → is_digit b ≡ true → read_number (b ∷ s) ≡ digits_from (b - 48) s
unfolding read_number
number_turn b s ne t =
    let e : 10 * 0 + (b - 48) ≡ b - 48 = omega arith in
    no_is (eqb b 48) _ _ (ne_eqb b 48 ne) ∙ yes_is (is_digit b) _ _ t ∙ digits_turn 0 b s t
    ∙ ap (λ v. digits_from v s) e

number_bad : (b : ℕ) (s : List ℕ) → (b ≡ 48 → ⊥) → is_digit b ≡ false → read_number (b ∷ s) ≡ no_number
unfolding read_number
number_bad b s ne t = no_is (eqb b 48) _ _ (ne_eqb b 48 ne) ∙ no_is (is_digit b) _ _ t

number_zero : (s : List ℕ) → read_number (48 ∷ s) ≡ number 0 s
unfolding read_number
number_zero s = refl

number_none : read_number [] ≡ no_number
unfolding read_number
number_none = refl

module _ (text : List ℕ) (at : ℕ) where
  pub told_none : length text ≤ at → Told text (read_number (drop at text)) None
  told_none h = told_same text None (ap read_number (drop_of_length-le text h) ∙ number_none) refl

  module _ (h : at < length text) where
    -- the byte, taken off
    number_from : read_number (drop at text) ≡ read_number (get_or text at 0 ∷ drop (suc at) text)
    number_from = ap read_number (drop-cons text at 0 h)

    pub told_zero : get_or text at 0 ≡ 48 → Told text (read_number (drop at text)) (got 0 (at + 1))
    unfolding capped
    told_zero e = told_same text (got 0 (at + 1))
        (number_from ∙ ap (λ b. read_number (b ∷ drop (suc at) text)) e ∙ number_zero (drop (suc at) text))
        (record { next = at + 1; is = refl; within = omega arith; rest = rw add-one refl })

    pub told_bad : (get_or text at 0 ≡ 48 → ⊥) → is_digit (get_or text at 0) ≡ false
        → Told text (read_number (drop at text)) None
    told_bad ne t =
        told_same text None (number_from ∙ number_bad (get_or text at 0) (drop (suc at) text) ne t) refl

    pub told_digits : {first : ℕ} {d : Digits} → (get_or text at 0 ≡ 48 → ⊥) → is_digit (get_or text at 0) ≡ true
        → first ≡ get_or text at 0 - 48 → DigitsRead text (at + 1) first d
        → Told text (read_number (drop at text)) (Some d)
    told_digits {first} {d} ne t f q =
        let r = subst (λ i. DigitsRead text (at + 1) i d) f q in
        told_same text (Some d)
        (number_from ∙ number_turn (get_or text at 0) (drop (suc at) text) ne t ∙ rw add-one at r.read)
        (record { next = d.next; is = ap (λ x. got x d.next) r.value; within = r.within; rest = refl })

-- a number that was told
pub record Read (text : List ℕ) (m : Number) (value next : ℕ) : Type 0 where
  pub v : ℕ
  pub is : m ≡ number v (drop next text)
  pub value_is : value ≡ capped v
  pub within : next ≤ length text

same_next : {v w i j : ℕ} → got v i ≡ got w j → j ≡ i
same_next e = ap (λ (d : Digits). d.next) (sym (same_Some _ _ e))

same_value : {v w i j : ℕ} → got v i ≡ got w j → v ≡ w
same_value e = ap (λ (d : Digits). d.value) (same_Some _ _ e)

told_read : (text : List ℕ) (value next : ℕ) (m : Number) → Told text m (got value next) → Read text m value next
told_read text value next no_number t = cc
told_read text value next (number v s) t = record {
  v = v;
  is = ap (number v) (t.rest ∙ ap (λ j. drop j text) (same_next t.is));
  value_is = same_value t.is;
  within = let e = same_next t.is in omega (arith, t.within);
}

pub told_got : {text : List ℕ} {m : Number} {f : Option Digits} {d : Digits} → f ≡ Some d → Told text m f
    → Read text m d.value d.next
told_got {text} {m} {f} {d} e t = told_read text d.value d.next m (subst (Told text m) e t)

told_no : (text : List ℕ) (m : Number) → Told text m None → m ≡ no_number
told_no text no_number t = refl
told_no text (number v s) t = let q = t.is in cc

pub told_nothing : (text : List ℕ) (m : Number) {f : Option Digits} → f ≡ None → Told text m f → m ≡ no_number
told_nothing text m e t = told_no text m (subst (Told text m) e t)
