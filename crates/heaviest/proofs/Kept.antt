-- The graph of the heaviest job, as it is kept in words.
use mathlib.Core.Path.{◌≡◌, refl, sym, ap, ◌∙◌, fun_ext}
use mathlib.Core.Bool.{Bool, true, false, ◌&&◌, ◌||◌, and-true, and-false, or-false}
use mathlib.Core.List.{List, ◌++◌}
use Prim.Native.Nat.{ℕ, ◌+◌, ◌*◌, ◌/◌, ◌%◌, ◌≤◌, ◌<◌}
use native.Mathlib.Omega.{arith}
use native.Mathlib.Nat.{mul-le-mul, mul-le-mul_right}
use lib.Dec.{ltb, eqb}
use lib.ListN.{take, length}
use Rattle.std.proofs.Common.{replicate}
use Rattle.std.proofs.lemmas.List.{take_at, ext_get_or, get_or-replicate, length-replicate}
use borrow.Author.Tests.{eq-eqb, ne_eqb, lt-ltb, le-ltb, ltb-true, ltb-false, eqb-true, eqb-false}
use Rattle.sets.specs.Below.{tabulate}
use Rattle.sets.specs.Sets.{Set, ◌∪◌, just, nothing}
use Rattle.sets.proofs.Tests.{bool, and_l, and_r}
use Rattle.sets.proofs.Lists.{length_tabulate, get_d_tabulate}
use Rattle.dimacs.specs.Made.{joined}
use Rattle.dimacs.proofs.Codes.{code_lt, first_lt, second_lt}
use Rattle.heaviest_sheet.specs.Written.{links, is_last, meets, is_edge, edges, graph}
use Rattle.heaviest_sheet.specs.Call.{SizesFit}
use Rattle.heaviest.specs.Words.{up_to}

-- the counts: as many as links, and all alike
alike : (k m : ℕ) → replicate k m ≡ tabulate k (λ l. m)
alike k m =
    let n = length_tabulate k (λ l. m) in
    ext_get_or 0 _ _ (length-replicate k m ∙ sym n)
    (λ i h. let g : i < k = omega (arith, length-replicate k m) in
    get_or-replicate k i m 0 g ∙ sym (get_d_tabulate k (λ l. m) i 0 g))

pub counts_set : {s : List ℕ} (k m n : ℕ) (rest : List ℕ) → n ≡ k → s ≡ replicate n m → take k (s ++ rest) ≡ links k m
unfolding links
counts_set {s} k m n rest e f =
    let q = f ∙ ap (λ x. replicate x m) e in
    take_at s rest k (ap length q ∙ length-replicate k m) ∙ q ∙ alike k m

-- the tests of a pair
module _ (m u v : ℕ) where
  pub last_not : {r : Bool} → r ≡ false → (u % m + 1 ≡ m → ⊥) → r ≡ (is_last m u && is_last m v)
  unfolding is_last
  last_not f ne = f ∙ rw (ne_eqb (u % m + 1) m ne) refl

  pub last_both : u % m + 1 ≡ m → eqb (v % m + 1) m ≡ (is_last m u && is_last m v)
  unfolding is_last
  last_both e = rw (eq-eqb (u % m + 1) m e) refl

  module _ (k : ℕ) where
    pub edge_back : v / m ≤ u / m → false ≡ is_edge k m u v
    unfolding is_edge
    edge_back h = rw (le-ltb (u / m) (v / m) h) refl

    module _ (up : u / m < v / m) where
      pub edge_early : v / m + 1 < k → true ≡ is_edge k m u v
      unfolding is_edge meets
      edge_early h = rw (lt-ltb (u / m) (v / m) up, lt-ltb (v / m + 1) k h) refl

      module _ {b : Bool} (late : k ≤ v / m + 1) (e : b ≡ (is_last m u && is_last m v)) where
        pub edge_last : b ≡ true → true ≡ is_edge k m u v
        unfolding is_edge meets
        edge_last t = rw (lt-ltb (u / m) (v / m) up, le-ltb (v / m + 1) k late, sym e, t) refl

        pub edge_next : b ≡ false → k ≤ u / m + 2 → false ≡ is_edge k m u v
        unfolding is_edge meets
        edge_next f h =
            rw (lt-ltb (u / m) (v / m) up, le-ltb (v / m + 1) k late, sym e, f, le-ltb (u / m + 2) k h) refl

        pub edge_first : b ≡ false → u / m + 2 < k → eqb (v % m) 0 ≡ is_edge k m u v
        unfolding is_edge meets
        edge_first f h =
            rw (lt-ltb (u / m) (v / m) up, le-ltb (v / m + 1) k late, sym e, f, lt-ltb (u / m + 2) k h) refl

-- a code
module _ (k m : ℕ) (Z : SizesFit k m) where
  pub vertices_some : 0 < k * m
  vertices_some = omega (arith, mul-le-mul_right m Z.k_some, Z.m_some)

  pub codes_few : k * m * (k * m) ≤ 262144
  codes_few = mul-le-mul Z.few Z.few

  pub code_parts : (z : ℕ) → z < k * m * (k * m) → (z / (k * m) < 512) × (z % (k * m) < 512)
  code_parts z h =
      let a = first_lt (k * m) (k * m) z h in
      let b = second_lt (k * m) (k * m) z h in
      let c = Z.few in
      (omega arith, omega arith)

pub code_tested : (k m z : ℕ) {r b : Bool} → r ≡ is_edge k m (z / (k * m)) (z % (k * m)) → r ≡ b → b ≡ edges k m z
unfolding edges
code_tested k m z e q = sym q ∙ e

-- the codes below z that are kept
pub none_kept : (E : Set) → up_to 0 E ≡ nothing
unfolding up_to nothing
none_kept E = fun_ext (λ v. ap (λ b. b && E v) (le-ltb v 0 (omega arith)))

module _ (S E : Set) (z : ℕ) (e : S ≡ up_to z E) where
  -- a lower code is kept alike, z by its test, and no higher one
  split : (b : Bool) (T : Set) → b ≡ E z → ((v : ℕ) → T v ≡ (S v || (eqb v z && b))) → T ≡ up_to (z + 1) E
  unfolding up_to
  split b T q t = fun_ext (λ v. t v ∙ ap (λ (U : Set). U v || (eqb v z && b)) e ∙ bool (eqb v z)
      (λ y. let i = eqb-true v z y in
      rw (y, i, le-ltb z z (omega arith), lt-ltb z (z + 1) (omega arith)) q)
      (λ n. let ne = eqb-false v z n in bool (ltb v z)
      (λ l. let h = ltb-true v z l in rw (n, l, lt-ltb v (z + 1) (omega arith)) (or-false (E v)))
      (λ l. let h = ltb-false v z l in rw (n, l, le-ltb v (z + 1) (omega arith)) refl)))

  pub kept_not : false ≡ E z → S ≡ up_to (z + 1) E
  kept_not f = split false S f (λ v. sym (ap (λ b. S v || b) (and-false (eqb v z)) ∙ or-false (S v)))

  pub kept_more : {T : Set} → T ≡ S ∪ just z → true ≡ E z → T ≡ up_to (z + 1) E
  unfolding ◌∪◌ just
  kept_more {T} q t = split true T t (λ v. ap (λ (U : Set). U v) q ∙ ap (λ b. S v || b) (sym (and-true (eqb v z))))

-- all codes of n vertices
pub kept_all : (n z : ℕ) (S E : Set) → z ≡ n * n → S ≡ up_to z E → joined n S ≡ joined n E
unfolding joined up_to
kept_all n z S E i e = fun_ext (λ u. fun_ext (λ v. bool (ltb u n && ltb v n)
    (λ t.
    let a = ltb-true u n (and_l (ltb u n) (ltb v n) t) in
    let b = ltb-true v n (and_r (ltb u n) (ltb v n) t) in
    ap (λ x. (ltb u n && ltb v n) && (x || S (v * n + u))) (kept u v a b)
    ∙ ap (λ x. (ltb u n && ltb v n) && (E (u * n + v) || x)) (kept v u b a))
    (λ f. rw f refl)))
  where
    kept : (u v : ℕ) → u < n → v < n → S (u * n + v) ≡ E (u * n + v)
    kept u v a b =
        ap (λ (T : Set). T (u * n + v)) e
        ∙ ap (λ x. x && E (u * n + v)) (lt-ltb (u * n + v) z (omega (arith, code_lt n n u v a b)))

pub kept_graph : (k m z : ℕ) (S : Set) → z ≡ k * m * (k * m) → S ≡ up_to z (edges k m) → joined (k * m) S ≡ graph k m
unfolding graph
kept_graph k m z S = kept_all (k * m) z S (edges k m)
