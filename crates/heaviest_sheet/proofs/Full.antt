-- The graph of the heaviest job is full, in any classes that are its links.
use mathlib.Core.Path.{◌≡◌, refl, sym, ap, ◌∙◌}
use mathlib.Core.Bool.{Bool, true, false, ◌&&◌, ◌||◌, or-true}
use Prim.Native.Nat.{ℕ, suc, ◌+◌, ◌-◌, ◌*◌, ◌/◌, ◌%◌, ◌≤◌, ◌<◌}
use native.Mathlib.Omega.{arith}
use native.Mathlib.Nat.{mul-le-mul_right}
use lib.Dec.{ltb, eqb}
use borrow.Author.Tests.{lt-ltb, le-ltb, eq-eqb, ne_eqb, eqb-true, eqb-false}
use Rattle.sets.proofs.Tests.{and_false, iff}
use Rattle.cliques.specs.Graph.{Graph}
use Rattle.dimacs.proofs.Codes.{code_second, code_back, first_lt, second_lt}
use Rattle.tree_size.proofs.FullGraph.{FullGraph}
use Rattle.heaviest_sheet.specs.Written.{is_last, meets, graph}
use Rattle.heaviest_sheet.specs.Call.{SizesFit}
use Rattle.heaviest_sheet.proofs.Links.{link_is, graph_is}

module _ (z m : ℕ) (Z : SizesFit (suc z) m) where
  abbrev n : ℕ
  n = suc z * m

  n_is : n ≡ z * m + m
  n_is = omega arith

  -- the last vertex of all
  abbrev x : ℕ
  x = z * m + m - 1

  place : (v : ℕ) → v < n → (v / m ≤ z) × (v / m * m ≤ v) × (v < v / m * m + m)
  place v h =
      let a = first_lt (suc z) m v h in
      let b = second_lt (suc z) m v h in
      let c = code_back m v in
      (omega arith, omega arith, omega arith)

  -- the last of its link
  last_is : (v : ℕ) → v < n → is_last m v ≡ eqb (suc v) (v / m * m + m)
  unfolding is_last
  last_is v h =
      let c = code_back m v in
      iff (eqb (v % m + 1) m) (eqb (suc v) (v / m * m + m))
      (λ t. let e = eqb-true (v % m + 1) m t in eq-eqb (suc v) (v / m * m + m) (omega arith))
      (λ t. let e = eqb-true (suc v) (v / m * m + m) t in eq-eqb (v % m + 1) m (omega arith))

  x_link : x / m ≡ z
  x_link = let p = Z.m_some in link_is m z x (omega arith) (omega arith)

  x_last : is_last m x ≡ true
  x_last = let p = Z.m_some in
      last_is x (omega arith) ∙ rw x_link (eq-eqb (suc x) (z * m + m) (omega arith))

  early_joined : (u v : ℕ) → u < n → v < n → u / m < v / m → v / m < z → graph (suc z) m u v ≡ true
  unfolding meets
  early_joined u v a b h g = graph_is (suc z) m Z u v a b h ∙ rw (lt-ltb (v / m + 1) (suc z) (omega arith)) refl

  -- to x only the last of a link is adjacent; where a link has more than one vertex, x is not the first of its own
  x_joined : (u : ℕ) → u < n → u / m < z → graph (suc z) m u x ≡ eqb (suc u) (u / m * m + m)
  unfolding meets
  x_joined u a h =
      let p = Z.m_some in
      graph_is (suc z) m Z u x a (omega arith) (omega (arith, x_link))
      ∙ rw (x_link, le-ltb (z + 1) (suc z) (omega arith), x_last) (go (is_last m u) (last_is u a))
    where
      go : (l : Bool) → l ≡ eqb (suc u) (u / m * m + m)
          → ((l && true) || (ltb (u / m + 2) (suc z) && eqb (x % m) 0)) ≡ eqb (suc u) (u / m * m + m)
      go true e = e
      go false e =
          let ne = eqb-false (suc u) (u / m * m + m) (sym e) in
          let w = place u a in
          let p = Z.m_some in
          let c = code_back m x in
          let q : x / m * m ≡ z * m = ap (λ i. i * m) x_link in
          and_false (ltb (u / m + 2) (suc z)) (eqb (x % m) 0) (ne_eqb (x % m) 0 (λ i. omega arith)) ∙ e

  first_joined : (u : ℕ) → u < n → suc (u / m) < z → graph (suc z) m u (z * m) ≡ true
  unfolding meets
  first_joined u a h =
      let p = Z.m_some in
      let e = link_is m z (z * m) (omega arith) (omega arith) in
      let y : z * m % m ≡ 0 = ap (λ i. i % m) (omega arith) ∙ code_second m z 0 (omega arith) in
      graph_is (suc z) m Z u (z * m) a (omega arith) (omega arith)
      ∙ rw (e, le-ltb (z + 1) (suc z) (omega arith), y, lt-ltb (u / m + 2) (suc z) (omega arith))
      (or-true (is_last m u && is_last m (z * m)))

  other_parted : (u v : ℕ) → u < n → v < n → suc (u / m) ≡ z → v / m ≡ z → (v ≡ x → ⊥) → graph (suc z) m u v ≡ false
  unfolding meets
  other_parted u v a b h e ne =
      let q : v / m * m ≡ z * m = ap (λ i. i * m) e in
      let l : is_last m v ≡ false = last_is v b ∙ ne_eqb (suc v) (v / m * m + m) (λ i. ne (omega arith)) in
      graph_is (suc z) m Z u v a b (omega arith)
      ∙ rw (e, le-ltb (z + 1) (suc z) (omega arith), l, le-ltb (u / m + 2) (suc z) (omega arith))
      (ap (λ i. i || false) (and_false (is_last m u) false refl))

  module _ (G : Graph) (ek : G.k ≡ suc z) (en : G.n ≡ n) (cl : (v : ℕ) → v < G.n → G.cls v ≡ v / m)
      (ea : (u v : ℕ) → G.adj u v ≡ graph (suc z) m u v) where
    within : {v : ℕ} → v < G.n → v < n
    within h = omega arith

    pub full : FullGraph G m z x
    full = record {
      classes = ek;
      size = en ∙ n_is;
      end = let p = Z.m_some in omega arith;
      some = Z.m_some;
      class = λ c v a b h. cl v (omega (arith, mul-le-mul_right m a)) ∙ link_is m c v b h;
      place = λ v h. rw (cl v h) (place v (within h));
      early = λ u v a b h g. ea u v ∙ early_joined u v (within a) (within b) (omega (arith, cl u a, cl v b))
          (omega (arith, cl v b));
      last = λ u a h. ea u x ∙ x_joined u (within a) (omega (arith, cl u a))
          ∙ ap (λ c. eqb (suc u) (c * m + m)) (sym (cl u a));
      first = λ u a h. ea u (z * m) ∙ first_joined u (within a) (omega (arith, cl u a));
      other = λ u v a b h g ne. ea u v ∙ other_parted u v (within a) (within b) (sym (ap suc (cl u a)) ∙ h)
          (sym (cl v b) ∙ g) ne;
    }
