-- Unit steps leave the greatest unit-closed set, or a class empty.
use Rattle.std.proofs.Common.{◌≡◌, refl, sym, subst, ◌∙◌, Bool, true, false, not, ◌||◌, ◌⊎◌, inl, inr, ℕ, zero, suc, ◌≤◌, ◌<◌, arith, eqb, ltb, leb, eqb-true, eq-eqb, ltb-true, ltb-false, leb-true, le-leb}
use Rattle.sets.specs.Below.{any, count}
use Rattle.sets.specs.Sets.{Set, ◌⊆◌, ◌∪◌, just, nothing}
use Rattle.sets.proofs.Tests.{clash, and_l, and_r, and_in, or_l, or_r, or_case, not_out, not_in, bool, case}
use Rattle.sets.proofs.Below.{first_lt, first_is, any_no, count_le, count_less, count_pos}
use Rattle.sets.proofs.Sets.{meet_l, meet_r, meet_in}
use Rattle.cliques.specs.Graph.{Graph, At, lone, lower, is_open, Clique, clique_set}
use Rattle.filters.specs.Unit.{stays, strike, due, steps, unit}
use Rattle.cliques.proofs.Graph.{Sole, at_sub, lone_sole, sole_lone, sole_sub, open_out}
use Rattle.filters.proofs.Promise.{Greatest, set_joined}

module _ (G : Graph) where
  open G use {n, k, cls, adj}

  -- next to a vertex alone in its class stand its neighbours only
  abbrev pub UnitClosed : ℕ → Set → Type 0
  UnitClosed d S = (c v : ℕ) → d ≤ c → c < k → Sole G c v S → (u : ℕ) → S u ≡ true → d ≤ cls u → (cls u ≡ c → ⊥)
      → adj v u ≡ true

  pub stays_out : (d c v u : ℕ) → stays G d c v u ≡ true → d ≤ cls u → (cls u ≡ c → ⊥) → adj v u ≡ true
  unfolding stays
  stays_out d c v u h l e = go (or_case (adj v u) _ h)
    where
      go₂ : (eqb (cls u) c ≡ true) ⊎ (ltb (cls u) d ≡ true) → adj v u ≡ true
      go₂ (inl x) = absurd (e (eqb-true _ _ x))
      go₂ (inr x) = absurd (omega (arith, ltb-true (cls u) d x))

      go : (adj v u ≡ true) ⊎ ((eqb (cls u) c || ltb (cls u) d) ≡ true) → adj v u ≡ true
      go (inl x) = x
      go (inr x) = go₂ (or_case (eqb (cls u) c) _ x)

  pub stays_in : (d c v u : ℕ) → (d ≤ cls u → (cls u ≡ c → ⊥) → adj v u ≡ true) → stays G d c v u ≡ true
  unfolding stays
  stays_in d c v u f = bool (eqb (cls u) c) (λ x. or_r (adj v u) (or_l _ x)) (λ x.
      bool (ltb (cls u) d) (λ y. or_r (adj v u) (or_r (eqb (cls u) c) y)) (λ y.
      or_l _ (f (ltb-false _ _ y) (λ e. clash (eqb (cls u) c) (eq-eqb _ _ e) x))))

  pub due_is : (d : ℕ) (t L : Set) (c : ℕ) → due G d t L c ≡ true → (d ≤ c) × (lone G c L ≡ true) × (t c ≡ false)
  unfolding due
  due_is d t L c h = let r = and_r (leb d c) _ h in (
    leb-true d c (and_l (leb d c) _ h),
    and_l (lone G c L) _ r,
    not_out (t c) (and_r (lone G c L) _ r),
  )

  due_in : (d : ℕ) (t L : Set) (c : ℕ) → d ≤ c → lone G c L ≡ true → t c ≡ false → due G d t L c ≡ true
  unfolding due
  due_in d t L c a b e = and_in (le-leb d c a) (and_in b (not_in e))

  -- the steps only strike
  steps_strikes : (f d : ℕ) (t L : Set) → steps G f d t L ⊆ L
  unfolding steps strike
  steps_strikes zero d t L = λ u h. h
  steps_strikes (suc f) d t L = case (λ X. X ⊆ L) (is_open G d L) _ _ (λ o. case (λ X. X ⊆ L) (any k (due G d t L)) _ _
      (λ a u h. meet_l L _ u (steps_strikes f d _ _ u h)) (λ e u h. h)) (λ e u h. h)

  -- a step keeps each unit-closed part
  pub strike_keeps : (d c : ℕ) (L S : Set) → is_open G d S ≡ true → UnitClosed d S → S ⊆ L → d ≤ c → c < k
      → lone G c L ≡ true → S ⊆ strike G d c L
  unfolding strike
  strike_keeps d c L S o z s a b l u h = meet_in L _ u (s u h)
      (stays_in d c _ u (z c _ a b (sole_sub G S L s (open_out G d S o c a b) (lone_sole G c L l)) u h))

  steps_keeps : (f d : ℕ) (t L S : Set) → is_open G d S ≡ true → UnitClosed d S → S ⊆ L → S ⊆ steps G f d t L
  unfolding steps
  steps_keeps zero d t L S o z s = s
  steps_keeps (suc f) d t L S o z s =
      case (λ X. S ⊆ X) (is_open G d L) _ _ (λ p. case (λ X. S ⊆ X) (any k (due G d t L)) _ _
      (λ a. let q = due_is d t L _ (first_is k (due G d t L) a) in
      steps_keeps f d _ _ S o z (strike_keeps d _ L S o z s q.0 (first_lt k (due G d t L) a) q.1))
      (λ e. s)) (λ e. s)

  -- the live vertices of the taken classes are adjacent to all in other classes that remain
  abbrev Taken : ℕ → Set → Set → Type 0
  Taken d t L = (c v u : ℕ) → t c ≡ true → At G c v L → L u ≡ true → d ≤ cls u → (cls u ≡ c → ⊥) → adj v u ≡ true

  step_taken : (d c : ℕ) (t L : Set) → lone G c L ≡ true → Taken d t L → Taken d (t ∪ just c) (strike G d c L)
  unfolding strike ◌∪◌ just
  step_taken d c t L l z e v u h a x y ne = go (or_case (t e) (eqb e c) h)
    where
      b : At G e v L
      b = at_sub G (meet_l L _) a

      go : (t e ≡ true) ⊎ (eqb e c ≡ true) → adj v u ≡ true
      go (inl q) = z e v u q b (meet_l L _ u x) y ne
      go (inr q) =
          let ec = eqb-true e c q in
          let s = lone_sole G c L l in
          let vf = s.only v (subst (λ i. At G i v L) ec b) in
          rw vf (stays_out d c (lower G c L) u (meet_r L (stays G d c (lower G c L)) u x) y (λ i. ne (i ∙ sym ec)))

  taken_closed : (d : ℕ) (t L : Set) → Taken d t L → ((c : ℕ) → d ≤ c → c < k → lone G c L ≡ true → t c ≡ true)
      → UnitClosed d L
  taken_closed d t L z f c v a b s u x y ne = z c v u (f c a b (sole_lone G c v L s)) s.at x y ne

  -- what a step leaves open is one class less
  fewer : (d : ℕ) (t L : Set) (f c : ℕ) → c < k → t c ≡ false → count k (λ e. not (t e)) ≤ suc f
      → count k (λ e. not ((t ∪ just c) e)) ≤ f
  unfolding ◌∪◌ just
  fewer d t L f c l h m =
      let r = count_less k (λ e. not (t e || eqb e c)) (λ e. not (t e)) (λ i x y. less (t i) _ y) c l
      (rw (eq-eqb c c refl) (gone (t c))) (not_in h) in
      omega arith
    where
      less : (a b : Bool) → not (a || b) ≡ true → not a ≡ true
      less true b x = x
      less false b x = refl

      gone : (a : Bool) → not (a || true) ≡ false
      gone true = refl
      gone false = refl

  steps_closed : (f d : ℕ) (t L : Set) → count k (λ e. not (t e)) ≤ f → Taken d t L
      → is_open G d (steps G f d t L) ≡ true → UnitClosed d (steps G f d t L)
  unfolding steps
  steps_closed zero d t L m z = λ o. taken_closed d t L z (λ c a b l. bool (t c) (λ e. e)
      (λ e. absurd (let r = count_pos k (λ e. not (t e)) c b (not_in e) in omega arith)))
  steps_closed (suc f) d t L m z = case (λ X. is_open G d X ≡ true → UnitClosed d X) (is_open G d L) _ _
      (λ o. case (λ X. is_open G d X ≡ true → UnitClosed d X) (any k (due G d t L)) _ _
      (λ a. let q = due_is d t L _ (first_is k (due G d t L) a) in
      steps_closed f d _ _ (fewer d t L f _ (first_lt k (due G d t L) a) q.2 m) (step_taken d _ t L q.1 z))
      (λ e _. taken_closed d t L z (λ c a b l. bool (t c) (λ x. x)
      (λ x. absurd (any_no k (due G d t L) e c b (due_in d t L c a l x))))))
      (λ e o. clash (is_open G d L) o e)

  -- a set where no class with one live vertex strikes a vertex is unit-closed
  pub settled_closed : (d : ℕ) (L : Set) → ((c : ℕ) → d ≤ c → c < k → lone G c L ≡ true → L ⊆ strike G d c L)
      → UnitClosed d L
  unfolding strike
  settled_closed d L f c v a b s u h l ne =
      let o = sole_lone G c v L s in
      let e = (lone_sole G c L o).only v s.at in
      rw e (stays_out d c (lower G c L) u (meet_r L (stays G d c (lower G c L)) u (f c a b o u h)) l ne)

  pub unit_greatest : Greatest G UnitClosed (unit G)
  unfolding unit nothing
  unit_greatest = record {
    strikes = λ d L. steps_strikes k d _ L;
    keeps = λ d L S o z s. steps_keeps k d _ L S o z s;
    closed = λ d L o. steps_closed k d nothing L (count_le k _) (λ c v u h. clash false h refl) o;
  }

  pub clique_closed : (d : ℕ) (L : Set) (c : ℕ → ℕ) → Clique G d L c → UnitClosed d (clique_set G d c)
  clique_closed d L c p e v a b s u h l ne = set_joined G d L c p v u s.at.live h (λ q. ne (q ∙ s.at.cl))
