-- The pre-filter keeps its promise. It strikes no vertex of a k-clique: by the pigeonhole a k-clique has a vertex in
-- each of the k layers.
use Rattle.std.proofs.Common.{◌≡◌, refl, sym, subst, true, ◌||◌, ◌⊎◌, inl, inr, ℕ, zero, suc, ◌≤◌, arith, eqb, eq-eqb}
use Rattle.sets.specs.Sets.{Set, ◌⊆◌}
use Rattle.sets.proofs.Tests.{clash, bool, and_in, or_l, or_r, or_case}
use Rattle.sets.proofs.Below.{any_in}
use Rattle.sets.proofs.Sets.{meet_l, meet_in, meet_mono}
use Rattle.cliques.specs.Graph.{Graph, Clique, layered, Layers}
use Rattle.filters.specs.Promise.{PrePromise}
use Rattle.filters.specs.Sweep.{near}
use Rattle.filters.specs.PreFilter.{pre_to, pre_filter}
use Rattle.cliques.proofs.Listing.{clique_any, hits, none_empty_lem, layers_less}
use Rattle.cliques.proofs.Graph.{clique_move}
use Rattle.filters.proofs.Sweep.{near_mono}

-- layer by layer: it only strikes, and reads the layers alone
module _ (G : Graph) (lay : ℕ → ℕ) where
  pub layers_strike : (m : ℕ) (L : Set) → pre_to G lay m L ⊆ L
  unfolding pre_to
  layers_strike zero L = λ u h. h
  layers_strike (suc m) L = λ u h. layers_strike m L u (meet_l (pre_to G lay m L) _ u h)

  layers_only : (m : ℕ) (L : Set) → pre_to (layered G lay) lay m L ≡ pre_to G lay m L
  unfolding pre_to
  layers_only zero L = refl
  layers_only (suc m) L = rw (layers_only m L) refl

module _ (G : Graph) (lay : ℕ → ℕ) (L : Set) (law : Layers G lay L) (c : ℕ → ℕ) (p : Clique G 0 L c) where
  open G use {n, k, cls, adj}

  layers_keep : (m : ℕ) → m ≤ k → Clique G 0 (pre_to G lay m L) c
  unfolding pre_to near
  layers_keep zero l = p
  layers_keep (suc m) l =
      let q = layers_keep m (omega arith) in
      let h = hits G lay L law c (clique_any G L c p) m l in
      clique_move G 0 (pre_to G lay m L) _ c q (λ j a b. meet_in (pre_to G lay m L) _ (c j) (q.at j a b).live
      (bool (eqb (lay (c j)) m) (λ e. or_l _ e) (λ e. or_r (eqb (lay (c j)) m)
      (any_in n _ (c h.0) (q.at h.0 (omega arith) h.1).lt
      (and_in (q.at h.0 (omega arith) h.1).live (and_in (eq-eqb _ _ h.2)
      (q.joined j h.0 a b (omega arith) h.1
      (λ i. clash (eqb (lay (c j)) m) (eq-eqb _ _ (subst (λ w. lay (c w) ≡ m) (sym i) h.2)) e))))))))

-- it leaves no more of less
module _ (G : Graph) (lay : ℕ → ℕ) where
  asked_mono : (m : ℕ) (L M : Set) → L ⊆ M → (u : ℕ)
      → (eqb (lay u) m || near (layered G lay) L u m) ≡ true → (eqb (lay u) m || near (layered G lay) M u m) ≡ true
  asked_mono m L M s u h = go (or_case (eqb (lay u) m) (near (layered G lay) L u m) h)
    where
      go : (eqb (lay u) m ≡ true) ⊎ (near (layered G lay) L u m ≡ true)
          → (eqb (lay u) m || near (layered G lay) M u m) ≡ true
      go (inl e) = or_l _ e
      go (inr e) = or_r (eqb (lay u) m) (near_mono (layered G lay) L M u m s e)

  layers_mono : (m : ℕ) (L M : Set) → L ⊆ M → pre_to G lay m L ⊆ pre_to G lay m M
  unfolding pre_to
  layers_mono zero L M s = s
  layers_mono (suc m) L M s =
      let i = layers_mono m L M s in
      meet_mono _ _ _ _ i (λ u x. asked_mono m (pre_to G lay m L) (pre_to G lay m M) i u)

pub pre_filter_promise : PrePromise pre_filter
unfolding pre_filter
pre_filter_promise = record {
  by_layers_is = λ G lay L. layers_only G lay G.k L;
  strikes = λ G lay L. layers_strike G lay G.k L;
  keeps = λ G lay L law c p. layers_keep G lay L law c p G.k (omega arith);
  refines = λ G lay L M s. layers_mono G lay G.k L M s;
  empty = λ G lay L law e c p. clash _ (none_empty_lem G lay _ (layers_less (layers_strike G lay G.k L) law) c
      (layers_keep G lay L law c p G.k (omega arith))) e;
}
