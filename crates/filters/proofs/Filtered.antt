-- A part that was filtered, from what was done to its rows.
use Rattle.std.proofs.Common.{◌≡◌, sym, ap, ◌∙◌, Bool, List, ℕ, ◌≤◌, arith}
use Rattle.sets.specs.Sets.{Set, ◌⊆◌}
use Rattle.rows.specs.Rows.{Outside}
use Rattle.rows.proofs.Rows.{below, outside_then, outside_wide}
use Rattle.cliques.specs.Graph.{Graph, is_open}
use Rattle.cliques.specs.Words.{own_row, Node, Room}
use Rattle.cliques.proofs.Words.{node_less}
use Rattle.cliques.specs.declared.Place.{Place}
use Rattle.filters.specs.Promise.{Filter}
use Rattle.filters.specs.Filtered.{Filtered}

-- the own row is what F leaves, and r says whether it is open
pub filtered : {F : Graph → Filter} {s d len : ℕ} {place : Place} {p q : List ℕ} {r : Bool}
    → ((G : Graph) (L : Set) → F G d L ⊆ L) → Room s place len
    → Outside 0 s p q
    → ((G : Graph) → Node G d place p → own_row place q ≡ F G d (own_row place p))
    → ((G : Graph) → Node G d place q → r ≡ is_open G d (own_row place q))
    → Filtered F s d place p q r
filtered {d = d} {place = place} {p = p} {q = q} f R x y z = record {
  rest = x;
  opens = λ G N. z G (node_less x R.masks_after R.graph_after
      (λ u h. f G (own_row place p) u (sym (ap (λ (X : Set). X u) (y G N)) ∙ h)) N) ∙ ap (is_open G d) (y G N);
  says = λ G N o. y G N;
}

-- only the own row counts: scratch rows were written before
pub filtered_before : {F : Graph → Filter} {s d : ℕ} {place : Place} {lo hi len : ℕ} {p₀ p q : List ℕ} {r : Bool}
    → Room s place len → place.w ≤ lo → hi ≤ s → Outside lo hi p₀ p → Filtered F s d place p q r
    → Filtered F s d place p₀ q r
filtered_before {F} {s} {d} {place} {p₀ = p₀} {p = p} R l h x y =
    let own : own_row place p ≡ own_row place p₀ = below x place.w 0 (omega arith) in
    let on : (G : Graph) → Node G d place p₀ → Node G d place p =
    λ G N. node_less x (omega arith) (omega arith) (λ u t. sym (ap (λ (X : Set). X u) own) ∙ t) N in
    record {
      rest = outside_then (outside_wide 0 s (omega arith) h x) y.rest;
      opens = λ G N. y.opens G (on G N) ∙ ap (λ (X : Set). is_open G d (F G d X)) own;
      says = λ G N o. y.says G (on G N) o ∙ ap (F G d) own;
    }
