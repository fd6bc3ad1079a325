-- Cliques as sets, and filters that leave the greatest set with a property: such a filter keeps its promise, and two of
-- them agree, whatever the order of their strikes.
use Rattle.std.proofs.Common.{◌≡◌, sym, ap, subst, ◌∙◌, true, false, ℕ}
use mathlib.Core.Path.{fun_ext}
use Rattle.sets.specs.Sets.{Set, ◌⊆◌}
use Rattle.sets.proofs.Tests.{clash, is_false, iff}
use Rattle.cliques.specs.Graph.{Graph, At, is_open, Clique, clique_set}
use Rattle.filters.specs.Promise.{Filter, Refines, Promise}
use Rattle.filters.specs.Step.{OnTheWay}
use Rattle.cliques.proofs.Graph.{open_mono, clique_move, clique_sub, clique_open, set_is, set_in}

module _ (G : Graph) where
  open G use {n, k, cls, adj}

  pub clique_set_lem : (d : ℕ) (L : Set) (c : ℕ → ℕ) → Clique G d L c → Clique G d (clique_set G d c) c
  clique_set_lem d L c p = clique_move G d L (clique_set G d c) c p (λ j a b.
      let e = (p.at j a b).cl in set_in G d c (c j) (ap c e) (rw e a) (rw e b))

  pub set_sub : (d : ℕ) (L : Set) (c : ℕ → ℕ) → Clique G d L c → clique_set G d c ⊆ L
  set_sub d L c p v h = let q = set_is G d c v h in subst (λ x. L x ≡ true) q.0 (p.at (cls v) q.1 q.2).live

  -- a filter that leaves the greatest set with a property P, or a class empty
  pub record Greatest (P : ℕ → Set → Type 0) (F : Filter) : Type 0 where
    pub strikes : (d : ℕ) (L : Set) → F d L ⊆ L
    pub keeps : (d : ℕ) (L S : Set) → is_open G d S ≡ true → P d S → S ⊆ L → S ⊆ F d L
    pub closed : (d : ℕ) (L : Set) → is_open G d (F d L) ≡ true → P d (F d L)

  pub greatest_mono : (P : ℕ → Set → Type 0) (F : Filter) → Greatest P F → Refines G F F
  greatest_mono P F g d L M s o = g.keeps d M (F d L) o (g.closed d L o) (λ u h. s u (g.strikes d L u h))

  -- a clique's set has at most one vertex in a class
  pub set_one : (d : ℕ) (c : ℕ → ℕ) (e v : ℕ) → At G e v (clique_set G d c) → v ≡ c e
  set_one d c e v x = let q = set_is G d c v x.live in sym q.0 ∙ ap c x.cl

  pub set_joined : (d : ℕ) (L : Set) (c : ℕ → ℕ) → Clique G d L c → (v u : ℕ) → clique_set G d c v ≡ true
      → clique_set G d c u ≡ true → (cls u ≡ cls v → ⊥) → adj v u ≡ true
  set_joined d L c p v u x y ne =
      let q = set_is G d c v x in let r = set_is G d c u y in
      let h = p.joined (cls v) (cls u) q.1 q.2 r.1 r.2 (λ e. ne (sym e)) in
      subst (λ w. adj w u ≡ true) q.0 (subst (λ w. adj (c (cls v)) w ≡ true) r.0 h)

  pub greatest_promise : (P : ℕ → Set → Type 0) (F : Filter) → Greatest P F
      → ((d : ℕ) (L : Set) (c : ℕ → ℕ) → Clique G d L c → P d (clique_set G d c)) → Promise G F
  greatest_promise P F g f = record {
    strikes = g.strikes;
    keeps = λ d L c p. let q = clique_set_lem d L c p in
        clique_sub G d (clique_set G d c) (F d L) c
        (g.keeps d L (clique_set G d c) (clique_open G d (clique_set G d c) c q)
        (f d L c p) (set_sub d L c p)) q;
    refines = greatest_mono P F g;
  }

  -- two such filters agree, whatever the order of their strikes: open together, and then the same set
  pub greatest_sub : (P : ℕ → Set → Type 0) (F H : Filter) → Greatest P F → Greatest P H → (d : ℕ) (L : Set)
      → is_open G d (F d L) ≡ true → F d L ⊆ H d L
  greatest_sub P F H f h d L o = h.keeps d L (F d L) o (f.closed d L o) (f.strikes d L)

  pub greatest_open : (P : ℕ → Set → Type 0) (F H : Filter) → Greatest P F → Greatest P H → (d : ℕ) (L : Set)
      → is_open G d (F d L) ≡ is_open G d (H d L)
  greatest_open P F H f h d L = iff _ _ (λ o. open_mono G d (F d L) (H d L) (greatest_sub P F H f h d L o) o)
      (λ o. open_mono G d (H d L) (F d L) (greatest_sub P H F h f d L o) o)

  pub greatest_same : (P : ℕ → Set → Type 0) (F H : Filter) → Greatest P F → Greatest P H → (d : ℕ) (L : Set)
      → is_open G d (F d L) ≡ true → F d L ≡ H d L
  greatest_same P F H f h d L o =
      fun_ext (λ u. iff _ _ (greatest_sub P F H f h d L o u)
      (greatest_sub P H F h f d L (sym (greatest_open P F H f h d L) ∙ o) u))

  -- strikes that a filter makes too: they may come in any order
  module _ (P : ℕ → Set → Type 0) (F : Filter) (g : Greatest P F) (d : ℕ) where
    pub way_start : (L : Set) → OnTheWay G F d L L
    way_start L = record { strikes = λ v h. h; keeps = λ o. g.strikes d L }

    -- no vertex of a part that has P and no empty class is lost
    pub way_in : (L₀ L : Set) → L ⊆ L₀ → ((S : Set) → is_open G d S ≡ true → P d S → S ⊆ L₀ → S ⊆ L)
        → OnTheWay G F d L₀ L
    way_in L₀ L s f = record { strikes = s; keeps = λ o. f (F d L₀) o (g.closed d L₀ o) (g.strikes d L₀) }

    way_further : (L M : Set) → OnTheWay G F d L M → is_open G d (F d L) ≡ true → F d L ⊆ F d M
    way_further L M a o = g.keeps d M (F d L) o (g.closed d L o) (a.keeps o)

    pub way_on : (L M N : Set) → OnTheWay G F d L M → OnTheWay G F d M N → OnTheWay G F d L N
    way_on L M N a b = record {
      strikes = λ v h. a.strikes v (b.strikes v h);
      keeps = λ o v h. b.keeps (open_mono G d (F d L) (F d M) (way_further L M a o) o) v (way_further L M a o v h);
    }

    -- where F strikes nothing more and no class is empty, it arrives; where F leaves a class empty, it does from the
    -- start too
    pub way_ends : (L₀ L : Set) → OnTheWay G F d L₀ L → is_open G d L ≡ true → P d L → F d L₀ ≡ L
    way_ends L₀ L w o p =
        let sub = g.keeps d L₀ L o p w.strikes in
        let o₂ = open_mono G d L (F d L₀) sub o in
        fun_ext (λ v. iff _ _ (w.keeps o₂ v) (sub v))

    pub way_shut : (L₀ L : Set) → OnTheWay G F d L₀ L → is_open G d (F d L) ≡ false → is_open G d (F d L₀) ≡ false
    way_shut L₀ L w e = is_false _
        (λ o. clash (is_open G d (F d L)) (open_mono G d (F d L₀) (F d L) (way_further L₀ L w o) o) e)

    -- what has an empty class has one after F
    pub shut_start : (L : Set) → is_open G d L ≡ false → is_open G d (F d L) ≡ false
    shut_start L e = is_false _ (λ o. clash (is_open G d L) (open_mono G d (F d L) L (g.strikes d L) o) e)
