-- The count text, read line by line.
use Rattle.std.proofs.Common.{◌≡◌, refl, sym, ap, subst, ◌∙◌, Bool, true, false, Option, Some, None, ◌⊎◌, ⊎_elim}
use Rattle.std.proofs.Common.{List, [], ◌∷◌, ◌++◌, ℕ, zero, suc, ◌+◌, ◌-◌, ◌≤◌, ◌<◌, min, leb, add-one, arith}
use Rattle.std.proofs.Common.{length, take, drop, set, length-drop, drop_of_length-le, take-suc-set, length-take-le}
use Rattle.std.proofs.Common.{drop-cons, lt-ltb, le-ltb, le-leb, leb-true, leb-false}
use Rattle.std.proofs.lemmas.Bool.{lt-leb}
use Rattle.sets.specs.Below.{sum_to}
use Rattle.sets.proofs.Tests.{bool, clash}
use Rattle.dimacs.specs.Reading.{Number, no_number, number, field, newline, is_empty, first_of, vertices_of}
use Rattle.dimacs.specs.Reading.{count_fits, CountList, no_counts, counts, counts_from}
use Rattle.dimacs.proofs.Choices.{yes_is, no_is, number_is, counts_turn}
use Rattle.dimacs.proofs.Sound.{vertices_more}
use Rattle.graph_read.specs.Read.{most_value, capped, Told, Fits, CountsTold}
use Rattle.graph_read.specs.declared.Digits.{Digits}
use Rattle.graph_read.proofs.Numbers.{Read, told_nothing}
use Rattle.graph_read.proofs.Shorter.{After, field_shorter}

-- whether a count may follow

fits_many : (k total count : ℕ) → 64 ≤ k → Fits k total count false
unfolding count_fits
fits_many k total count h = record {
  answer = λ cs c e f g. rw (le-ltb (length cs) 64 (omega arith)) refl;
  small = λ q. clash false q refl;
}

fits_none : (k total count : ℕ) → k < 64 → count ≡ 0 → Fits k total count false
unfolding count_fits capped
fits_none k total count h z = record {
  answer = λ cs c e f g. let o : c ≤ 0 = omega arith in rw (lt-ltb (length cs) 64 (omega arith), le-ltb 0 c o) refl;
  small = λ q. clash false q refl;
}

pub fits_sum : (k total count : ℕ) → k < 64 → (count ≡ 0 → ⊥) → total ≤ 512 → (r : Bool)
    → r ≡ leb count (512 - total) → Fits k total count r
unfolding count_fits capped
fits_sum k total count h ne few r e = record {
  answer = λ cs c p f g. let o : 0 < c = omega (arith, ne) in
      rw (lt-ltb (length cs) 64 (omega arith), lt-ltb 0 c o) (e ∙ same cs c f g);
  small = λ q. let l = leb-true count (512 - total) (sym e ∙ q) in (h, omega arith);
}
  where
    same : (cs : List ℕ) (c : ℕ) → total ≡ vertices_of cs → count ≡ min c most_value
        → leb count (512 - total) ≡ leb (vertices_of cs + c) 512
    same cs c f g = bool (leb count (512 - total))
        (λ t. let l = leb-true count (512 - total) t in t ∙ sym (le-leb (vertices_of cs + c) 512 (omega arith)))
        (λ t. t ∙ sym (lt-leb (vertices_of cs + c) 512 (omega (arith, leb-false count (512 - total) t))))

pub fits_not : (k total count : ℕ) {r : Bool} → ((k < 64) × (count ≡ 0)) ⊎ (64 ≤ k) → r ≡ false → Fits k total count r
fits_not k total count h e = subst (Fits k total count) (sym e)
    (⊎_elim (λ n. fits_none k total count n.0 n.1) (λ m. fits_many k total count m) h)

-- the counts of a text
abbrev pub counts_in : List ℕ → CountList
counts_in text = counts_from (length text + 1) [] text

-- the number of the line at a place
abbrev pub line_at : List ℕ → ℕ → Number
line_at text at = field [] newline (drop at text)

-- the lines so far: k counts in `out`, which sum to `total`, and the lines from `at` on to come
pub record SoFar (text : List ℕ) (at k total : ℕ) (out : List ℕ) : Type 0 where
  pub turns : ℕ
  pub enough : length text - at < turns
  pub same : counts_in text ≡ counts_from turns (take k out) (drop at text)
  pub sum : total ≡ vertices_of (take k out)

pub so_far_none : (text out : List ℕ) → SoFar text 0 0 0 out
unfolding first_of sum_to
so_far_none text out = record { turns = length text + 1; enough = omega arith; same = refl; sum = refl }

pub some_left : (text : List ℕ) (at : ℕ) → at < length text → is_empty (drop at text) ≡ false
some_left text at h = ap is_empty (drop-cons text at 0 h)

none_is {ℓ} : {A : Type ℓ} (w : Number) (x : A) (f : ℕ → List ℕ → A) → w ≡ no_number
    → elim w [ no_number ↦ x | number v s ↦ f v s ] ≡ x
none_is w x f e = ap (λ c. elim c [ no_number ↦ x | number v s ↦ f v s ]) e

-- a turn that ends
turn_none : (turns : ℕ) (cs s : List ℕ) → is_empty s ≡ false → field [] newline s ≡ no_number
    → counts_from turns cs s ≡ no_counts
unfolding counts_from
turn_none zero cs s e f = refl
turn_none (suc turns) cs s e f = no_is (is_empty s) _ _ e ∙ none_is (field [] newline s) _ _ f

turn_unfit : (turns : ℕ) (cs s : List ℕ) (c : ℕ) (r : List ℕ) → is_empty s ≡ false → field [] newline s ≡ number c r
    → count_fits cs c ≡ false → counts_from turns cs s ≡ no_counts
unfolding counts_from
turn_unfit zero cs s c r e f g = refl
turn_unfit (suc turns) cs s c r e f g =
    no_is (is_empty s) _ _ e ∙ number_is (field [] newline s) _ _ c r f ∙ no_is (count_fits cs c) _ _ g

turn_end : (turns : ℕ) (cs s : List ℕ) → 0 < turns → s ≡ [] → counts_from turns cs s ≡ counts cs
unfolding counts_from
turn_end zero cs s h e = absurd (omega arith)
turn_end (suc turns) cs s h e = yes_is (is_empty s) _ _ (ap is_empty e)

-- what follows a field begins later
pub field_later : (text ws : List ℕ) (end at value next : ℕ) → at ≤ length text
    → Read text (field ws end (drop at text)) value next → at < next
field_later text ws end at value next h r =
    let m = length (drop at text) in
    let s = subst (After (λ r. length r < m)) r.is (field_shorter ws end (drop at text)) in
    omega (arith, length-drop next text, length-drop at text)

pub next_later : (text : List ℕ) (at : ℕ) {value next : ℕ} → at < length text → Read text (line_at text at) value next
    → at < next
next_later text at {value} {next} h r = field_later text [] newline at value next (omega arith) r

module _ {text : List ℕ} {at k total : ℕ} {out : List ℕ} (p : SoFar text at k total out) (h : at < length text) where
  ends : counts_from p.turns (take k out) (drop at text) ≡ no_counts → CountsTold (counts_in text) out None
  ends e = subst (λ w. CountsTold w out None) (sym (p.same ∙ e)) refl

  pub bad_line : {f : Option Digits} → f ≡ None → Told text (line_at text at) f → CountsTold (counts_in text) out None
  bad_line e t = ends (turn_none p.turns (take k out) (drop at text) (some_left text at h)
      (told_nothing text (line_at text at) e t))

  module _ (value next : ℕ) (r : Read text (line_at text at) value next) (room : k ≤ length out) where
    fit_is : (b : Bool) → Fits k total value b → b ≡ count_fits (take k out) r.v
    fit_is b F = F.answer (take k out) r.v (sym (length-take-le k out room)) p.sum r.value_is

    pub unfit_line : {b : Bool} → Fits k total value b → b ≡ false → CountsTold (counts_in text) out None
    unfit_line {b} F e = ends (turn_unfit p.turns (take k out) (drop at text) r.v (drop next text)
        (some_left text at h) r.is (sym (fit_is b F) ∙ e))

    pub so_far_more : {b : Bool} → Fits k total value b → b ≡ true → k < length out
        → SoFar text next (k + 1) (total + value) (set out k value)
    so_far_more {b} F e l = go p.turns p.enough p.same
      where
        same_count : value ≡ r.v
        same_count = unfold capped in omega (arith, r.value_is, (F.small e).1)

        added : take (k + 1) (set out k value) ≡ take k out ++ (r.v ∷ [])
        added = rw add-one (take-suc-set out k value l ∙ ap (λ x. take k out ++ (x ∷ [])) same_count)

        go : (turns : ℕ) → length text - at < turns → counts_in text ≡ counts_from turns (take k out) (drop at text)
            → SoFar text next (k + 1) (total + value) (set out k value)
        go zero g q = absurd (omega arith)
        go (suc turns) g q = record {
          turns = turns;
          enough = omega (arith, next_later text at h r, r.within);
          same = q ∙ counts_turn turns (take k out) (drop at text) r.v (drop next text)
              (some_left text at h) r.is (sym (fit_is b F) ∙ e)
              ∙ ap (λ cs. counts_from turns cs (drop next text)) (sym added);
          sum = ap (λ x. total + x) same_count ∙ ap (λ x. x + r.v) p.sum
              ∙ sym (vertices_more (take k out) r.v) ∙ ap vertices_of (sym added);
        }

-- all lines are read
pub counts_done : {text : List ℕ} {at k total : ℕ} {out : List ℕ} → SoFar text at k total out → length text ≤ at
    → k ≤ length out → CountsTold (counts_in text) out (Some k)
counts_done {text} {at} {k} {total} {out} p h room =
    let e = length-take-le k out room in
    let d = turn_end p.turns (take k out) (drop at text) (omega (arith, p.enough)) (drop_of_length-le text h) in
    subst (λ w. CountsTold w out (Some k)) (sym (p.same ∙ d)) (ap Some (sym e), ap (λ j. take j out) e, omega arith)
