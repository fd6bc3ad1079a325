-- A word at a place, the byte that follows a number, and the two around a number: a field.
use Rattle.std.proofs.Common.{◌≡◌, refl, sym, ap, subst, ◌∙◌, Bool, true, false, ◌&&◌, Option, Some, None, List, [], ◌∷◌}
use Rattle.std.proofs.Common.{ℕ, suc, ◌+◌, ◌-◌, ◌≤◌, ◌<◌, eqb, add-one, arith, eq-eqb, ne_eqb, eqb-true}
use Rattle.std.proofs.Common.{length, take, drop, get_or, drop_of_length-le, drop-cons, drop-drop, take_all, length-drop}
use Rattle.std.specs.List.{starts_with}
use Rattle.std.specs.Cmp.Lexicographic.{pointwise}
use Rattle.sets.proofs.Tests.{and_l, and_r, and_in, bool, case, clash, eqb_turned}
use Rattle.dimacs.specs.Reading.{Number, no_number, number, read_number, ended_by, field}
use Rattle.dimacs.proofs.Choices.{yes_is, no_is}
use Rattle.graph_read.specs.Read.{got, Told}
use Rattle.graph_read.specs.declared.Digits.{Digits}
use Rattle.graph_read.proofs.Numbers.{told_same, Read, told_got, told_nothing}

-- a word at a place

-- a field of a word that stands at the front is one without a word after it
field_after : (word s : List ℕ) (end : ℕ) → starts_with eqb s word ≡ true
    → field word end s ≡ field [] end (drop (length word) s)
unfolding field
field_after [] s end t = refl
field_after (w ∷ ws) [] end t = cc
field_after (w ∷ ws) (b ∷ s) end t =
    let p = pointwise eqb ws (take (length ws) s) in
    yes_is (eqb b w) _ _ (eq-eqb b w (sym (eqb-true w b (and_l (eqb w b) p t))))
    ∙ field_after ws s end (and_r (eqb w b) p t)

-- and else there is none
field_without : (word s : List ℕ) (end : ℕ) → starts_with eqb s word ≡ false → field word end s ≡ no_number
unfolding field
field_without [] s end t = cc
field_without (w ∷ ws) [] end t = refl
field_without (w ∷ ws) (b ∷ s) end t =
    let p = pointwise eqb ws (take (length ws) s) in case (λ x. x ≡ no_number) (eqb b w) _ _
    (λ e. field_without ws s end (bool p (λ h. clash (eqb w b && p) (and_in (eqb_turned w b ∙ e) h) t) (λ h. h)))
    (λ _. refl)

-- the byte that follows

ended_none : (end : ℕ) → ended_by end no_number ≡ no_number
unfolding ended_by
ended_none end = refl

ended_short : (end v : ℕ) → ended_by end (number v []) ≡ no_number
unfolding ended_by
ended_short end v = refl

ended_turn : (end v b : ℕ) (s : List ℕ) → b ≡ end → ended_by end (number v (b ∷ s)) ≡ number v s
unfolding ended_by
ended_turn end v b s e = yes_is (eqb b end) _ _ (eq-eqb b end e)

ended_bad : (end v b : ℕ) (s : List ℕ) → (b ≡ end → ⊥) → ended_by end (number v (b ∷ s)) ≡ no_number
unfolding ended_by
ended_bad end v b s ne = no_is (eqb b end) _ _ (ne_eqb b end ne)

module _ (text : List ℕ) (end : ℕ) (d : Digits) where
  -- the byte after the number, taken off
  ended_from : {m : Number} (R : Read text m d.value d.next) → d.next < length text
      → ended_by end m ≡ ended_by end (number R.v (get_or text d.next 0 ∷ drop (suc d.next) text))
  ended_from R h = ap (ended_by end) (R.is ∙ ap (number R.v) (drop-cons text d.next 0 h))

  pub told_short : length text ≤ d.next → (m : Number) → Told text m (Some d) → Told text (ended_by end m) None
  told_short h m t =
      let R : Read text m d.value d.next = told_got refl t in
      told_same text None
      (ap (ended_by end) (R.is ∙ ap (number R.v) (drop_of_length-le text h)) ∙ ended_short end R.v) refl

  pub told_other : d.next < length text → (get_or text d.next 0 ≡ end → ⊥) → (m : Number) → Told text m (Some d)
      → Told text (ended_by end m) None
  told_other h ne m t =
      let R : Read text m d.value d.next = told_got refl t in
      told_same text None
      (ended_from R h ∙ ended_bad end R.v (get_or text d.next 0) (drop (suc d.next) text) ne) refl

  pub told_ended : d.next < length text → get_or text d.next 0 ≡ end → (m : Number) → Told text m (Some d)
      → Told text (ended_by end m) (got d.value (d.next + 1))
  told_ended h e m t =
      let R : Read text m d.value d.next = told_got refl t in
      told_same text (got d.value (d.next + 1))
      (ended_from R h ∙ ended_turn end R.v (get_or text d.next 0) (drop (suc d.next) text) e)
      (record {
        next = d.next + 1;
        is = ap (λ x. got x (d.next + 1)) R.value_is;
        within = omega arith;
        rest = rw add-one refl;
      })

-- a whole field

field_nil : (end : ℕ) (s : List ℕ) → field [] end s ≡ ended_by end (read_number s)
unfolding field
field_nil end s = refl

module _ (text : List ℕ) (at : ℕ) (word : List ℕ) (end : ℕ) {b : Bool} (w : b ≡ starts_with eqb (take (length text - at) (drop at text)) word) where
  word_is : b ≡ starts_with eqb (drop at text) word
  word_is = w ∙ ap (λ s. starts_with eqb s word) (take_all (length text - at) (drop at text) (omega (arith, length-drop at text)))

  pub told_no_word : b ≡ false → Told text (field word end (drop at text)) None
  told_no_word e = told_same text None (field_without word (drop at text) end (sym word_is ∙ e)) refl

  -- the number after the word
  field_there : b ≡ true → field word end (drop at text) ≡ ended_by end (read_number (drop (at + length word) text))
  field_there e = field_after word (drop at text) end (sym word_is ∙ e) ∙ field_nil end _
      ∙ ap (λ s. ended_by end (read_number s)) (drop-drop (length word) at text)

  pub told_no_field : b ≡ true → {f : Option Digits} → f ≡ None → Told text (read_number (drop (at + length word) text)) f
      → Told text (field word end (drop at text)) None
  told_no_field e n t = told_same text None (field_there e ∙ ap (ended_by end) (told_nothing text _ n t) ∙ ended_none end) refl

  pub told_field : b ≡ true → {f : Option Digits} {d : Digits} (r : Option Digits) → f ≡ Some d
      → Told text (read_number (drop (at + length word) text)) f
      → ((m : Number) → Told text m (Some d) → Told text (ended_by end m) r) → Told text (field word end (drop at text)) r
  told_field e r n t g =
      told_same text r (field_there e) (g _ (subst (Told text (read_number (drop (at + length word) text))) n t))
