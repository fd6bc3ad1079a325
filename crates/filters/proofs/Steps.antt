-- Strikes of a filter, one after another.
use Rattle.std.proofs.Common.{◌≡◌, refl, sym, ap, subst, ◌∙◌, Bool, true, false, ◌||◌, Option, Some, None, List, ℕ, ◌+◌, ◌*◌, ◌≤◌, ◌<◌, add-one, arith}
use Rattle.sets.specs.Below.{count}
use Rattle.sets.specs.Sets.{Set}
use Rattle.sets.proofs.Tests.{below}
use Rattle.rows.specs.Rows.{Outside}
use Rattle.rows.proofs.Rows.{outside_none, outside_then}
use Rattle.cliques.specs.Graph.{Graph, is_open}
use Rattle.cliques.specs.Words.{own_row, Node, Room}
use Rattle.cliques.proofs.Words.{node_less}
use Rattle.cliques.specs.declared.Place.{Place}
use Rattle.filters.specs.Promise.{Filter}
use Rattle.filters.specs.Step.{Stepped}
use Rattle.filters.proofs.Promise.{Greatest, way_start, way_on, way_shut}

module _ (F : Graph → Filter) (P : Graph → ℕ → Set → Type 0) (g : (G : Graph) → Greatest G (P G) (F G))
    {s d : ℕ} {place : Place} {len : ℕ} (R : Room s place len) where
  open place use {w}

  step_node : {Q : Graph → Set → Type 0} {p q : List ℕ} (x : Bool) → Stepped F Q s d place p q (Some x)
      → (G : Graph) → Node G d place p → Node G d place q
  step_node x S G N = node_less S.rest R.masks_after R.graph_after (S.way x refl G N).strikes N

  -- nothing was struck
  pub step_none : {Q : Graph → Set → Type 0} {p : List ℕ} → ((G : Graph) → Node G d place p → Q G (own_row place p))
      → Stepped F Q s d place p p (Some false)
  step_none {Q} {p} q = record {
    rest = outside_none _ _ p;
    shut = λ e. absurd cc;
    way = λ y e G N. way_start G (P G) (F G) (g G) d (own_row place p);
    fewer = λ e. absurd cc;
    same = λ e. refl;
    settled = λ e. q;
  }

  -- the filter leaves a class empty
  pub step_shut : {Q : Graph → Set → Type 0} {p q : List ℕ} → Outside 0 s p q
      → ((G : Graph) → Node G d place p → is_open G d (F G d (own_row place p)) ≡ false)
      → Stepped F Q s d place p q None
  step_shut x f = record {
    rest = x;
    shut = λ e. f;
    way = λ y e. absurd cc;
    fewer = λ e. absurd cc;
    same = λ e. absurd cc;
    settled = λ e. absurd cc;
  }

  -- what is known where nothing was struck may be said in another way
  pub step_says : {Q Q' : Graph → Set → Type 0} {p q : List ℕ} {r : Option Bool}
      → ((G : Graph) → Node G d place p → Q G (own_row place p) → Q' G (own_row place p))
      → Stepped F Q s d place p q r → Stepped F Q' s d place p q r
  step_says f S = record {
    rest = S.rest;
    shut = S.shut;
    way = S.way;
    fewer = S.fewer;
    same = S.same;
    settled = λ e G N. f G N (S.settled e G N);
  }

  -- where it is not so that nothing was struck, anything may be said of that
  pub step_over : {Q Q' : Graph → Set → Type 0} {p q : List ℕ} {r : Option Bool} → (r ≡ Some false → ⊥)
      → Stepped F Q s d place p q r
      → Stepped F Q' s d place p q r
  step_over h S = record {
    rest = S.rest;
    shut = S.shut;
    way = S.way;
    fewer = S.fewer;
    same = S.same;
    settled = λ e. absurd (h e);
  }

  -- one after the other
  module _ {Q₁ Q₂ : Graph → Set → Type 0} {p₀ p q : List ℕ} (x : Bool) (S : Stepped F Q₁ s d place p₀ p (Some x)) where
    pub steps_shut : {Q : Graph → Set → Type 0} → Stepped F Q₂ s d place p q None → Stepped F Q s d place p₀ q None
    steps_shut T = step_shut (outside_then S.rest T.rest) (λ G N.
        way_shut G (P G) (F G) (g G) d _ _ (S.way x refl G N) (T.shut refl G (step_node x S G N)))

    pub steps_then : {Q : Graph → Set → Type 0} (y : Bool) → ((G : Graph) (L : Set) → Q₁ G L → Q₂ G L → Q G L)
        → Stepped F Q₂ s d place p q (Some y) → Stepped F Q s d place p₀ q (Some (x || y))
    steps_then {Q} y f T = record {
      rest = outside_then S.rest T.rest;
      shut = λ e. absurd cc;
      way = λ z e G N. way_on G (P G) (F G) (g G) d _ _ _ (S.way x refl G N) (T.way y refl G (step_node x S G N));
      fewer = λ e. less x y S.fewer S.same T.fewer T.same cc;
      same = λ e. let o = none x y cc in T.same (ap Some o.1) ∙ S.same (ap Some o.0);
      settled = λ e G N. let o = none x y cc in
          f G (own_row place p₀) (S.settled (ap Some o.0) G N)
          (subst (λ (L : Set). Q₂ G L) (S.same (ap Some o.0)) (T.settled (ap Some o.1) G (step_node x S G N)));
    }
      where
        none : (x y : Bool) → (x || y) ≡ false → (x ≡ false) × (y ≡ false)
        none true y e = absurd cc
        none false y e = (refl, e)

        less : (x y : Bool)
            → (Some x ≡ Some true → count (64 * w) (own_row place p) < count (64 * w) (own_row place p₀))
            → (Some x ≡ Some false → own_row place p ≡ own_row place p₀)
            → (Some y ≡ Some true → count (64 * w) (own_row place q) < count (64 * w) (own_row place p))
            → (Some y ≡ Some false → own_row place q ≡ own_row place p)
            → (x || y) ≡ true → count (64 * w) (own_row place q) < count (64 * w) (own_row place p₀)
        less true true f i h j e = omega (arith, f refl, h refl)
        less true false f i h j e = omega (arith, f refl, ap (count (64 * w)) (j refl))
        less false true f i h j e = omega (arith, h refl, ap (count (64 * w)) (i refl))
        less false false f i h j e = absurd cc

-- classes in turn: each from d on below c had strikes of F made for it, and where none has struck, Q holds of each
abbrev pub ClassesTo : (ℕ → Graph → Set → Type 0) → ℕ → ℕ → Graph → Set → Type 0
ClassesTo Q d c G L = (x : ℕ) → d ≤ x → x < c → Q x G L

abbrev pub Turns : (Graph → Filter) → (ℕ → Graph → Set → Type 0) → ℕ → ℕ → Place → List ℕ → List ℕ → Bool → ℕ → Type 0
Turns F Q s d place p₀ p struck c = Stepped F (ClassesTo Q d c) s d place p₀ p (Some struck)

module _ (F : Graph → Filter) (P : Graph → ℕ → Set → Type 0) (g : (G : Graph) → Greatest G (P G) (F G))
    (Q : ℕ → Graph → Set → Type 0) {s d : ℕ} {place : Place} {len : ℕ} (R : Room s place len) where
  pub turns_none : {p : List ℕ} → Turns F Q s d place p p false d
  turns_none = step_none F P g R (λ G N x a b. absurd (omega arith))

  module _ {p₀ p q : List ℕ} {struck : Bool} (c : ℕ) (T : Turns F Q s d place p₀ p struck c) where
    pub turns_shut : {Q' : Graph → Set → Type 0} → Stepped F (Q c) s d place p q None
        → Stepped F Q' s d place p₀ q None
    turns_shut S = steps_shut F P g R struck T S

    pub turns_more : (here : Bool) → Stepped F (Q c) s d place p q (Some here)
        → Turns F Q s d place p₀ q (struck || here) (c + 1)
    turns_more here S = steps_then F P g R struck T here more S
      where
        more : (G : Graph) (L : Set) → ClassesTo Q d c G L → Q c G L → ClassesTo Q d (c + 1) G L
        more G L f h x a b = below x c (rw add-one at b) (f x a) (λ e. subst (λ (y : ℕ). Q y G L) (sym e) h)

  -- of all classes
  pub turns_all : {p₀ p : List ℕ} {struck : Bool} (c : ℕ) {Q' : Graph → Set → Type 0}
      → Turns F Q s d place p₀ p struck c → place.k ≤ c
      → ((G : Graph) (L : Set) → ClassesTo Q d G.k G L → Q' G L) → Stepped F Q' s d place p₀ p (Some struck)
  turns_all c T h f = step_says F P g R (λ G N i. f G _ (λ x a b. i x a (omega (arith, N.held.classes)))) T
