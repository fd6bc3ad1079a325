-- The colour sweep keeps its promise.
use Rattle.std.proofs.Common.{◌≡◌, true, not, ◌&&◌, ◌||◌, ◌⊎◌, inl, inr, ℕ, zero, suc, ◌≤◌, ◌<◌, arith, eqb, ltb, eqb-true, eq-eqb, ltb-false}
use Rattle.sets.specs.Below.{all, any}
use Rattle.sets.specs.Sets.{Set, ◌⊆◌}
use Rattle.sets.proofs.Tests.{and_l, and_r, and_in, or_l, or_r, or_case, not_in, bool}
use Rattle.sets.proofs.Below.{any_in, any_mono, all_in, all_out}
use Rattle.sets.proofs.Sets.{meet_l, meet_in, meet_mono}
use Rattle.cliques.specs.Graph.{Graph, Clique}
use Rattle.filters.specs.Promise.{Promise}
use Rattle.filters.specs.Sweep.{near, reached, sweep_to, sweep}
use Rattle.cliques.proofs.Graph.{clique_move}

module _ (G : Graph) where
  open G use {n, k, cls, adj}

  pub near_mono : (L M : Set) (u e : ℕ) → L ⊆ M → near G L u e ≡ true → near G M u e ≡ true
  unfolding near
  near_mono L M u e s = any_mono n _ _ (λ w l h. and_in (s w (and_l (L w) _ h)) (and_r (L w) _ h))

  reached_mono : (d m : ℕ) (L M : Set) (u : ℕ) → L ⊆ M → reached G d m L u ≡ true → reached G d m M u ≡ true
  unfolding reached
  reached_mono d m L M u s h = go (or_case (not (eqb (cls u) m)) _ h)
    where
      one : (e : ℕ) → (ltb e d ≡ true) ⊎ (near G L u e ≡ true) → (ltb e d || near G M u e) ≡ true
      one e (inl x) = or_l _ x
      one e (inr x) = or_r (ltb e d) (near_mono L M u e s x)

      go : (not (eqb (cls u) m) ≡ true) ⊎ (all m (λ e. ltb e d || near G L u e) ≡ true)
          → (not (eqb (cls u) m) || all m (λ e. ltb e d || near G M u e)) ≡ true
      go (inl x) = or_l _ x
      go (inr x) = or_r (not (eqb (cls u) m))
          (all_in m _ (λ e l. one e (or_case (ltb e d) (near G L u e)
          (all_out m (λ e. ltb e d || near G L u e) x e l))))

  sweep_to_strikes : (m d : ℕ) (L : Set) → sweep_to G m d L ⊆ L
  unfolding sweep_to
  sweep_to_strikes zero d L u h = h
  sweep_to_strikes (suc m) d L u h = sweep_to_strikes m d L u (meet_l (sweep_to G m d L) _ u h)

  sweep_to_mono : (m d : ℕ) (L M : Set) → L ⊆ M → sweep_to G m d L ⊆ sweep_to G m d M
  unfolding sweep_to
  sweep_to_mono zero d L M s = s
  sweep_to_mono (suc m) d L M s =
      meet_mono _ _ _ _ (sweep_to_mono m d L M s) (λ u x. reached_mono d m _ _ u (sweep_to_mono m d L M s))

  reached_clique : (m d : ℕ) (L : Set) (c : ℕ → ℕ) → m < k → Clique G d L c → (j : ℕ) → d ≤ j → j < k
      → reached G d m L (c j) ≡ true
  unfolding reached near
  reached_clique m d L c l p j a b = bool (eqb (cls (c j)) m)
      (λ q. or_r (not (eqb (cls (c j)) m))
      (all_in m _ (λ e x. bool (ltb e d) (λ t. or_l _ t)
      (λ t. or_r (ltb e d) (seen e x (ltb-false e d t) (eqb-true (cls (c j)) m q))))))
      (λ q. or_l _ (not_in q))
    where
      seen : (e : ℕ) → e < m → d ≤ e → cls (c j) ≡ m → any n (λ w. L w && (eqb (cls w) e && adj (c j) w)) ≡ true
      seen e x y z =
          let w = p.at e y (omega arith) in
          let jm = (p.at j a b).cl in
          any_in n _ (c e) w.lt (and_in w.live
          (and_in (eq-eqb _ _ w.cl) (p.joined j e a b y (omega arith) (λ q. omega arith))))

  sweep_to_keeps : (m d : ℕ) (L : Set) (c : ℕ → ℕ) → m ≤ k → Clique G d L c → Clique G d (sweep_to G m d L) c
  unfolding sweep_to
  sweep_to_keeps zero d L c l p = p
  sweep_to_keeps (suc m) d L c l p =
      let q = sweep_to_keeps m d L c (omega arith) p in
      clique_move G d (sweep_to G m d L) _ c q (λ j a b. meet_in (sweep_to G m d L) _ (c j) (q.at j a b).live
      (reached_clique m d _ c l q j a b))

  pub sweep_promise : Promise G (sweep G)
  unfolding sweep
  sweep_promise = record {
    strikes = λ d L. sweep_to_strikes k d L;
    keeps = λ d L c p. sweep_to_keeps k d L c (omega arith) p;
    refines = λ d L M s o. sweep_to_mono k d L M s;
  }
