-- The loop of `pre_filter`: the layers below e have struck.
use Rattle.std.proofs.Common.{◌≡◌, refl, sym, ap, ap₂, ◌∙◌, Bool, true, false, ◌&&◌, ◌||◌, List, ℕ, ◌+◌, ◌*◌, ◌<◌, add-one, arith, eqb}
use mathlib.Core.Path.{fun_ext}
use Rattle.sets.specs.Sets.{Set, ◌∩◌, ◌∪◌}
use Rattle.sets.proofs.Tests.{bool}
use Rattle.rows.specs.Rows.{set_at, row_at, Outside, Put}
use Rattle.rows.proofs.Rows.{above, below, outside_none, outside_then, outside_wide}
use Rattle.cliques.specs.Graph.{Graph, is_open}
use Rattle.cliques.specs.Words.{own_row, three_rows, Node, Room}
use Rattle.cliques.specs.declared.Place.{Place}
use Rattle.filters.specs.Filtered.{Filtered}
use Rattle.filters.specs.PreFilter.{pre_to, pre_filter}
use Rattle.filters.specs.Reach.{beside, StruckBy}
use Rattle.filters.specs.Sweep.{near}
use Rattle.filters.proofs.Filtered.{filtered}
use Rattle.filters.proofs.PreFilter.{layers_strike}
use Rattle.filters.proofs.ReachRows.{beside_same}
use Rattle.filters.proofs.SweepRows.{near_beside}

pub record Layering (place : Place) (p₀ p : List ℕ) (e : ℕ) : Type 0 where
  pub rest : Outside 0 (three_rows place) p₀ p
  pub so : (G : Graph) → Node G 0 place p₀ → own_row place p ≡ pre_to G G.cls e (own_row place p₀)

pre_more : {G : Graph} {place : Place} {p : List ℕ} {own own' : Set} {e : ℕ} → Node G 0 place p → e < place.k
    → own ≡ pre_to G G.cls e (own_row place p)
    → own' ≡ own ∩ (row_at p place.w place.masks e
    ∪ beside p place.w (own ∩ row_at p place.w place.masks e) place.graph place.n)
    → own' ≡ pre_to G G.cls (e + 1) (own_row place p)
unfolding pre_to ◌∩◌ ◌∪◌
pre_more {G} {place} {p} {own} {own'} {e} N l x y =
    y ∙ fun_ext (λ u. bool (own u) (inn u) (out u)) ∙ ap (λ (X : Set). X ∩ (λ u. eqb (G.cls u) e || near G X u e)) x
    ∙ ap (λ (j : ℕ). pre_to G G.cls j (own_row place p)) (sym (add-one e))
  where
    small : (u : ℕ) → own u ≡ true → u < place.n
    small u h = let r = (N.live u (layers_strike G G.cls e (own_row place p) u (sym (ap (λ (X : Set). X u) x)
        ∙ h))).0 in omega (arith, N.held.size)

    inn : (u : ℕ) → own u ≡ true → (own u
        && (row_at p place.w place.masks e u || beside p place.w (own ∩ row_at p place.w place.masks e)
        place.graph place.n u)) ≡ (own u && (eqb (G.cls u) e || near G own u e))
    inn u h = ap₂ (λ (a b : Bool). own u && (a || b)) (N.held.mask e u l (small u h))
        (near_beside N.held own e u l (small u h))

    out : (u : ℕ) → own u ≡ false → (own u
        && (row_at p place.w place.masks e u || beside p place.w (own ∩ row_at p place.w place.masks e)
        place.graph place.n u)) ≡ (own u && (eqb (G.cls u) e || near G own u e))
    out u h = rw h refl

module _ {place : Place} {p₀ : List ℕ} where
  open place use {w, masks, graph, n, k}

  pub layering_none : Layering place p₀ p₀ 0
  unfolding pre_to
  layering_none = record { rest = outside_none _ _ p₀; so = λ G N. refl }

  pub layering_more : {p p₁ q : List ℕ} {e m len : ℕ} → Room (w + w + w) place len → Layering place p₀ p e → e < k
      → m ≡ masks + e * w → Put (set_at p w m) w (w + w) p p₁ → StruckBy w m graph n p₁ q → Layering place p₀ q (e + 1)
  layering_more {p} {p₁} {q} {e} {m} R F l g x y =
      let r₁ : Outside 0 (w + w + w) p₀ p₁ =
      outside_then F.rest (outside_wide 0 (w + w + w) (omega arith) (omega arith) x.rest) in
      let own : own_row place p₁ ≡ own_row place p = below x.rest w 0 (omega arith) in
      let row : set_at p w m ≡ row_at p₀ w masks e = ap (set_at p w) g ∙ above F.rest w (masks + e * w) (omega arith) in
      let row₁ : set_at p₁ w m ≡ row_at p₀ w masks e = ap (set_at p₁ w) g ∙ above r₁ w (masks + e * w) (omega arith) in
      record {
        rest = outside_then r₁ y.rest;
        so = λ G N. pre_more N l (F.so G N)
            (y.own ∙ ap₂ (λ (X Y : Set). X ∩ Y) own (ap₂ (λ (X Y : Set). X ∪ Y) (x.here ∙ row)
            (ap₂ (λ (X Y : Set). beside p₁ w (X ∩ Y) graph n) own row₁ ∙ beside_same w _ graph n r₁ R.graph_after)));
      }

  pub layering_all : {p : List ℕ} {e len : ℕ} {r : Bool} → Room (w + w + w) place len → Layering place p₀ p e → e ≡ k
      → ((G : Graph) → Node G 0 place p → r ≡ is_open G 0 (own_row place p))
      → Filtered (λ G d L. pre_filter G G.cls L) (w + w + w) 0 place p₀ p r
  unfolding pre_filter
  layering_all {p} {e} R F l z = filtered (λ G L. layers_strike G G.cls G.k L) R F.rest
      (λ G N. F.so G N
      ∙ ap (λ (j : ℕ). pre_to G G.cls j (own_row place p₀)) (l ∙ sym N.held.classes)) z
