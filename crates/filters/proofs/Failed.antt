-- Failed vertices: what is left is the greatest unit-closed set with no failed vertex, or a class is empty.
use Rattle.std.proofs.Common.{◌≡◌, refl, sym, ap, subst, ◌∙◌, true, false, not, ◌&&◌, ◌⊎◌, inl, inr, ℕ, zero, suc, ◌≤◌, ◌<◌, arith, eqb, ltb, eqb-true, eq-eqb, ltb-true, ltb-false}
use borrow.Author.Tests.{not-false}
use Rattle.sets.specs.Below.{count}
use Rattle.sets.specs.Sets.{Set, ◌⊆◌, ◌∖◌, just}
use Rattle.sets.proofs.Tests.{clash, and_l, and_r, and_in, or_l, or_r, not_out, not_in, bool, is_false, case, below}
use Rattle.sets.proofs.Below.{count_le, count_less}
use Rattle.sets.proofs.Sets.{meet_l, meet_in, meet_mono, without_sub, without_ne, without_in}
use Rattle.cliques.specs.Graph.{Graph, At, two, lower, higher, is_open}
use Rattle.filters.specs.Promise.{Promise}
use Rattle.filters.specs.Unit.{unit}
use Rattle.filters.specs.Failed.{State, alone, refuted, trial, try_higher, try_class, round, rounds, failed}
use Rattle.cliques.proofs.Graph.{Sole, Pair, at_sub, some_in, lower_at, open_in, open_out, open_mono, two_pair}
use Rattle.cliques.proofs.Graph.{pair_two, pair_which, swap}
use Rattle.filters.proofs.Promise.{Greatest, greatest_mono, greatest_promise, set_one}
use Rattle.filters.proofs.Unit.{UnitClosed, unit_greatest, clique_closed}

module _ (G : Graph) where
  open G use {n, k, cls, adj}

  -- no failed vertex in a class of two
  abbrev pub Firm : ℕ → Set → Type 0
  Firm d S = (c a b : ℕ) → d ≤ c → c < k → Pair G c a b S → is_open G d (unit G d (alone G a S)) ≡ true

  abbrev pub Closed : ℕ → Set → Type 0
  Closed d S = UnitClosed G d S × Firm d S

  alone_mono : (a : ℕ) (L M : Set) → L ⊆ M → alone G a L ⊆ alone G a M
  unfolding alone
  alone_mono a L M s = meet_mono L M _ _ s (λ u x y. y)

  alone_sub : (a : ℕ) (L : Set) → alone G a L ⊆ L
  unfolding alone
  alone_sub a L = meet_l L _

  -- where a is alone G already
  alone_at : (c a : ℕ) (S : Set) → Sole G c a S → (e v : ℕ) → At G e v S → At G e v (alone G a S)
  unfolding alone
  alone_at c a S s e v x = record {
    lt = x.lt;
    live = meet_in S _ v x.live (bool (eqb (cls v) (cls a))
        (λ q. or_r (not (eqb (cls v) (cls a)))
        (eq-eqb v a (s.only v (record { lt = x.lt; live = x.live; cl = eqb-true _ _ q ∙ s.at.cl }))))
        (λ q. or_l _ (not_in q)));
    cl = x.cl;
  }

  sole_trial : (d c a : ℕ) (S : Set) → is_open G d S ≡ true → UnitClosed G d S → Sole G c a S
      → is_open G d (unit G d (alone G a S)) ≡ true
  sole_trial d c a S o z s =
      let i = alone_at c a S s in
      let o' = open_in G d (alone G a S)
      (λ e l r. some_in G e _ (alone G a S) (i e _ (lower_at G e S (open_out G d S o e l r)))) in
      open_mono G d (alone G a S) _ ((unit_greatest G).keeps d (alone G a S) (alone G a S) o'
      (λ e v l r x u h. z e v l r (record { at = at_sub G (alone_sub a S) x.at; only = λ w y. x.only w (i e w y) })
      u (alone_sub a S u h))
      (λ u h. h)) o'

  -- a failed vertex of a pair is in no closed part
  pub refuted_out : (d c a b : ℕ) (L S : Set) → d ≤ c → c < k → Pair G c a b L → refuted G d a L ≡ true
      → is_open G d S ≡ true → Closed d S → S ⊆ L → S ⊆ (L ∖ just a)
  unfolding refuted
  refuted_out d c a b L S l r p f o z s u h = without_in a L u (s u h) (λ e. clash (is_open G d (unit G d (alone G a L)))
      (open_mono G d _ _ (greatest_mono G (UnitClosed G) (unit G) (unit_greatest G) d _ _ (alone_mono a S L s) (ok e))
      (ok e)) (not_out _ f))
    where
      in_a : u ≡ a → At G c a S
      in_a e = record { lt = p.at_a.lt; live = subst (λ w. S w ≡ true) e h; cl = p.at_a.cl }

      pick : (w : ℕ) → S b ≡ false → At G c w S → (w ≡ a) ⊎ (w ≡ b) → w ≡ a
      pick w q x (inl y) = y
      pick w q x (inr y) = clash (S b) (subst (λ w. S w ≡ true) y x.live) q

      ok : u ≡ a → is_open G d (unit G d (alone G a S)) ≡ true
      ok e = bool (S b)
          (λ q. z.1 c a b l r (record {
            at_a = in_a e;
            at_b = record { lt = p.at_b.lt; live = q; cl = p.at_b.cl };
            ne = p.ne;
            only = λ w x. p.only w (at_sub G s x);
          }))
          (λ q. sole_trial d c a S o z.0
          (record { at = in_a e; only = λ w x. pick w q x (p.only w (at_sub G s x)) }))

  -- what a trial, a class, a round G do
  record Goes (d : ℕ) (x y : State) : Type 0 where
    strikes : y.1 ⊆ x.1
    keeps : (S : Set) → is_open G d S ≡ true → Closed d S → S ⊆ x.1 → S ⊆ y.1
    uclosed : is_open G d y.1 ≡ true → UnitClosed G d x.1 → UnitClosed G d y.1
    change : (y ≡ x) ⊎ ((y.0 ≡ true) × (count n y.1 < count n x.1))

  goes_id : (d : ℕ) (x : State) → Goes d x x
  goes_id d x = record { strikes = λ u h. h; keeps = λ S o z s. s; uclosed = λ o z. z; change = inl refl }

  goes_on : (d : ℕ) (x y z : State) → Goes d x y → Goes d y z → Goes d x z
  goes_on d x y z p q = record {
    strikes = λ u h. p.strikes u (q.strikes u h);
    keeps = λ S o c s. q.keeps S o c (p.keeps S o c s);
    uclosed = λ o c. q.uclosed o (p.uclosed (open_mono G d z.1 y.1 q.strikes o) c);
    change = go p.change q.change;
  }
    where
      go : (y ≡ x) ⊎ ((y.0 ≡ true) × (count n y.1 < count n x.1))
          → (z ≡ y) ⊎ ((z.0 ≡ true) × (count n z.1 < count n y.1))
          → (z ≡ x) ⊎ ((z.0 ≡ true) × (count n z.1 < count n x.1))
      go (inl a) (inl b) = inl (b ∙ a)
      go (inl a) (inr b) = inr (b.0, subst (λ w. count n z.1 < count n w.1) a b.1)
      go (inr a) (inl b) = inr (ap (λ w. w.0) b ∙ a.0, subst (λ w. count n w.1 < count n x.1) (sym b) a.1)
      go (inr a) (inr b) = inr (b.0, omega arith)

  trial_goes : (d c a b : ℕ) (x : State) → d ≤ c → c < k → Pair G c a b x.1 → Goes d x (trial G d a x)
  unfolding trial
  trial_goes d c a b x l r p = case (Goes d x) (refuted G d a x.1) _ _
      (λ f. record {
        strikes = λ u h. without_sub a x.1 u ((unit_greatest G).strikes d _ u h);
        keeps = λ S o z s. (unit_greatest G).keeps d _ S o z.0 (refuted_out d c a b x.1 S l r p f o z s);
        uclosed = λ o z. (unit_greatest G).closed d _ o;
        change = inr (
          refl,
          count_less n _ _ (λ i h t. without_sub a x.1 i ((unit_greatest G).strikes d _ i t)) a p.at_a.lt
              (is_false _ (λ t. without_ne a x.1 a ((unit_greatest G).strikes d _ a t) refl)) p.at_a.live,
        );
      })
      (λ f. goes_id d x)

  higher_goes : (d c : ℕ) (x : State) → d ≤ c → c < k → Goes d x (try_higher G d c x)
  unfolding try_higher
  higher_goes d c x l r = case (Goes d x) (two G c x.1) _ _
      (λ t. trial_goes d c _ _ x l r (swap G (two_pair G c x.1 t))) (λ t. goes_id d x)

  class_goes : (d c : ℕ) (x : State) → d ≤ c → c < k → Goes d x (try_class G d c x)
  unfolding try_class
  class_goes d c x l r = case (Goes d x) (two G c x.1) _ _
      (λ t. goes_on d x _ _ (trial_goes d c _ _ x l r (two_pair G c x.1 t)) (higher_goes d c _ l r))
      (λ t. goes_id d x)

  round_goes : (m d : ℕ) (x : State) → m ≤ k → Goes d x (round G m d x)
  unfolding round
  round_goes zero d x h = goes_id d x
  round_goes (suc m) d x h = case (Goes d x) (ltb m d) _ _ (λ t. round_goes m d x (omega arith))
      (λ t. goes_on d x _ _ (round_goes m d x (omega arith)) (class_goes d m _ (ltb-false m d t) h))

  -- a flag that is down says that nothing was struck
  same : (d : ℕ) (x y : State) → Goes d x y → y.0 ≡ false → y ≡ x
  same d x y g h = go g.change
    where
      go : (y ≡ x) ⊎ ((y.0 ≡ true) × (count n y.1 < count n x.1)) → y ≡ x
      go (inl e) = e
      go (inr e) = clash y.0 e.0 h

  abbrev Stable : ℕ → ℕ → Set → Type 0
  Stable d c L = (a b : ℕ) → Pair G c a b L → refuted G d a L ≡ false

  trial_same : (d a : ℕ) (x : State) → (trial G d a x).0 ≡ false → (refuted G d a x.1 ≡ false) × (trial G d a x ≡ x)
  unfolding trial
  trial_same d a x = case (λ (y : State). y.0 ≡ false → (refuted G d a x.1 ≡ false)
      × (y ≡ x)) (refuted G d a x.1) _ _
      (λ f h. clash true refl h) (λ f h. (f, refl))

  higher_same : (d c : ℕ) (x : State) → two G c x.1 ≡ true → (try_higher G d c x).0 ≡ false
      → refuted G d (higher G c x.1) x.1 ≡ false
  unfolding try_higher
  higher_same d c x t = case (λ (y : State). y.0 ≡ false → refuted G d (higher G c x.1) x.1 ≡ false)
      (two G c x.1) _ _
      (λ t h. (trial_same d _ x h).0) (λ f. clash (two G c x.1) t f)

  class_same : (d c : ℕ) (x : State) → d ≤ c → c < k → (try_class G d c x).0 ≡ false → Stable d c x.1
  unfolding try_class
  class_same d c x l r = case (λ (y : State). y.0 ≡ false → Stable d c x.1) (two G c x.1) _ _
      (λ t h. let x1 = trial G d (lower G c x.1) x in
      let e = same d x1 (try_higher G d c x1) (higher_goes d c x1 l r) h in
      let q = trial_same d (lower G c x.1) x (ap (λ w. w.0) (sym e) ∙ h) in
      let s = higher_same d c x t (subst (λ w. (try_higher G d c w).0 ≡ false) q.1 h) in
      λ a b p. go a q.0 s (pair_which G c a b x.1 p))
      (λ f h a b p. clash (two G c x.1) (pair_two G c a b x.1 p) f)
    where
      go : (a : ℕ) → refuted G d (lower G c x.1) x.1 ≡ false → refuted G d (higher G c x.1) x.1 ≡ false
          → (a ≡ lower G c x.1) ⊎ (a ≡ higher G c x.1) → refuted G d a x.1 ≡ false
      go a u v (inl e) = rw e u
      go a u v (inr e) = rw e v

  round_same : (m d : ℕ) (x : State) → m ≤ k → (round G m d x).0 ≡ false → (c : ℕ) → d ≤ c → c < m → Stable d c x.1
  unfolding round
  round_same zero d x h = λ q c a b. absurd (omega arith)
  round_same (suc m) d x h = case (λ (y : State). y.0 ≡ false → (c : ℕ) → d ≤ c → c < suc m → Stable d c x.1)
      (ltb m d) _ _
      (λ t q c a b. round_same m d x (omega arith) q c a (omega (arith, ltb-true m d t)))
      (λ t q c a b.
      let y = round G m d x in
      let e = same d y (try_class G d m y) (class_goes d m y (ltb-false m d t) h) q in
      let yq : y.0 ≡ false = ap (λ w. w.0) (sym e) ∙ q in
      let yx = same d x y (round_goes m d x (omega arith)) yq in
      below c m b (λ i. round_same m d x (omega arith) yq c a i)
      (λ i. subst (λ w. Stable d w x.1) (sym i)
      (subst (λ w. Stable d m w.1) yx (class_same d m y (ltb-false m d t) h q))))

  rounds_strikes : (f d : ℕ) (L : Set) → rounds G f d L ⊆ L
  unfolding rounds
  rounds_strikes zero d L = λ u h. h
  rounds_strikes (suc f) d L =
      case (λ X. X ⊆ L) ((round G k d (false, L)).0 && is_open G d (round G k d (false, L)).1) _ _
      (λ t u h. g.strikes u (rounds_strikes f d _ u h)) (λ t. g.strikes)
    where
      g : Goes d (false, L) (round G k d (false, L))
      g = round_goes k d (false, L) (omega arith)

  rounds_keeps : (f d : ℕ) (L S : Set) → is_open G d S ≡ true → Closed d S → S ⊆ L → S ⊆ rounds G f d L
  unfolding rounds
  rounds_keeps zero d L S o z s = s
  rounds_keeps (suc f) d L S o z s =
      case (λ X. S ⊆ X) ((round G k d (false, L)).0 && is_open G d (round G k d (false, L)).1) _ _
      (λ t. rounds_keeps f d _ S o z (g.keeps S o z s)) (λ t. g.keeps S o z s)
    where
      g : Goes d (false, L) (round G k d (false, L))
      g = round_goes k d (false, L) (omega arith)

  rounds_closed : (f d : ℕ) (L : Set) → count n L < f → UnitClosed G d L → is_open G d (rounds G f d L) ≡ true
      → Closed d (rounds G f d L)
  unfolding rounds refuted
  rounds_closed zero d L m z = absurd (omega arith)
  rounds_closed (suc f) d L m z = case (λ X. is_open G d X ≡ true → Closed d X) (y.0 && is_open G d y.1) _ _
      (λ t. rounds_closed f d y.1 (less g.change (and_l y.0 _ t))
      (g.uclosed (and_r y.0 (is_open G d y.1) t) z))
      (λ t o. last o (is_false y.0 (λ i. clash (y.0 && is_open G d y.1) (and_in i o) t)))
    where
      y : State
      y = round G k d (false, L)

      g : Goes d (false, L) y
      g = round_goes k d (false, L) (omega arith)

      less : (y ≡ (false, L)) ⊎ ((y.0 ≡ true) × (count n y.1 < count n L)) → y.0 ≡ true → count n y.1 < f
      less (inl e) i = clash y.0 i (ap (λ w. w.0) e)
      less (inr e) i = omega arith

      last : is_open G d y.1 ≡ true → y.0 ≡ false → Closed d y.1
      last o i =
          let e = same d (false, L) y g i in (
            g.uclosed o z,
            λ c a b l r p. not-false _ (subst (λ w. refuted G d a w.1 ≡ false) (sym e)
                (round_same k d (false, L) (omega arith) i c l r a b (subst (λ w. Pair G c a b w.1) e p))),
          )

  pub failed_greatest : Greatest G Closed (failed G)
  unfolding failed
  failed_greatest = record {
    strikes = λ d L. case (λ X. X ⊆ L) (is_open G d (unit G d L)) _ _
        (λ o u h. (unit_greatest G).strikes d L u (rounds_strikes (suc n) d _ u h)) (λ o. (unit_greatest G).strikes d L);
    keeps = λ d L S o z s. case (λ X. S ⊆ X) (is_open G d (unit G d L)) _ _
        (λ i. rounds_keeps (suc n) d _ S o z ((unit_greatest G).keeps d L S o z.0 s))
        (λ i. (unit_greatest G).keeps d L S o z.0 s);
    closed = λ d L. case (λ X. is_open G d X ≡ true → Closed d X) (is_open G d (unit G d L)) _ _
        (λ i. rounds_closed (suc n) d _ (let r = count_le n (unit G d L) in
        omega arith) ((unit_greatest G).closed d L i))
        (λ i o. clash (is_open G d (unit G d L)) o i);
  }

  pub failed_promise : Promise G (failed G)
  failed_promise = greatest_promise G Closed (failed G) failed_greatest (λ d L c p. (
    clique_closed G d L c p,
    λ e a b l r q. absurd (q.ne (set_one G d c e a q.at_a ∙ sym (set_one G d c e b q.at_b))),
  ))
