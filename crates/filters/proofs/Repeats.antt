-- Strikes of a filter repeated until a turn strikes nothing: what is then left is what the filter leaves.
use Rattle.std.proofs.Common.{◌≡◌, refl, sym, ap, ◌∙◌, true, false, Some, List, ℕ}
use Rattle.sets.specs.Sets.{Set}
use Rattle.sets.proofs.Tests.{clash}
use Rattle.rows.specs.Rows.{Outside}
use Rattle.rows.proofs.Rows.{outside_none, outside_then}
use Rattle.cliques.specs.Graph.{Graph, is_open}
use Rattle.cliques.specs.Words.{own_row, Node, Room}
use Rattle.cliques.proofs.Words.{node_less}
use Rattle.cliques.specs.declared.Place.{Place}
use Rattle.filters.specs.Filtered.{Filtered}
use Rattle.filters.specs.Promise.{Filter}
use Rattle.filters.specs.Step.{OnTheWay, Stepped}
use Rattle.filters.proofs.Promise.{Greatest, way_start, way_on, way_ends, way_shut}

-- strikes of F were made, from p₀ to p
pub record Repeating (F : Graph → Filter) (s d : ℕ) (place : Place) (p₀ p : List ℕ) : Type 0 where
  pub rest : Outside 0 s p₀ p
  pub way : (G : Graph) → Node G d place p₀ → OnTheWay G (F G) d (own_row place p₀) (own_row place p)

module _ (F : Graph → Filter) (P : Graph → ℕ → Set → Type 0) (g : (G : Graph) → Greatest G (P G) (F G))
    {s d : ℕ} {place : Place} {len : ℕ} (R : Room s place len) {p₀ : List ℕ} where
  pub repeat_start : Repeating F s d place p₀ p₀
  repeat_start = record {
    rest = outside_none _ _ p₀;
    way = λ G N. way_start G (P G) (F G) (g G) d (own_row place p₀);
  }

  module _ {p : List ℕ} (T : Repeating F s d place p₀ p) where
    pub repeat_node : (G : Graph) → Node G d place p₀ → Node G d place p
    repeat_node G N = node_less T.rest R.masks_after R.graph_after (T.way G N).strikes N

    module _ {q : List ℕ} where
      -- F leaves a class empty
      pub repeat_shut : Outside 0 s p q
          → ((G : Graph) → Node G d place p → is_open G d (F G d (own_row place p)) ≡ false)
          → Filtered F s d place p₀ q false
      repeat_shut x f = record {
        rest = outside_then T.rest x;
        opens = λ G N. sym (way_shut G (P G) (F G) (g G) d _ _ (T.way G N) (f G (repeat_node G N)));
        says = λ G N t. clash false t refl;
      }

      -- other strikes that F makes too
      pub repeat_on : Outside 0 s p q
          → ((G : Graph) → Node G d place p → OnTheWay G (F G) d (own_row place p) (own_row place q))
          → Repeating F s d place p₀ q
      repeat_on x f = record {
        rest = outside_then T.rest x;
        way = λ G N. way_on G (P G) (F G) (g G) d _ _ _ (T.way G N) (f G (repeat_node G N));
      }

      -- a turn that has struck a vertex
      pub repeat_more : {Q : Graph → Set → Type 0} → Stepped F Q s d place p q (Some true)
          → Repeating F s d place p₀ q
      repeat_more S = repeat_on S.rest (S.way true refl)

      -- a turn that has struck nothing: no remaining class is empty and the own row has the property P, so that F has
      -- arrived
      pub repeat_all : {Q : Graph → Set → Type 0} → Stepped F Q s d place p q (Some false)
          → ((G : Graph) → Node G d place p₀ → Q G (own_row place p)
          → (is_open G d (own_row place p) ≡ true) × P G d (own_row place p))
          → Filtered F s d place p₀ q true
      repeat_all {Q} S f = record {
        rest = outside_then T.rest S.rest;
        opens = λ G N. sym (ap (is_open G d) (arrives G N) ∙ (ends G N).0);
        says = λ G N t. S.same refl ∙ sym (arrives G N);
      }
        where
          ends : (G : Graph) → Node G d place p₀ → (is_open G d (own_row place p) ≡ true) × P G d (own_row place p)
          ends G N = f G N (S.settled refl G (repeat_node G N))

          arrives : (G : Graph) → Node G d place p₀ → F G d (own_row place p₀) ≡ own_row place p
          arrives G N = let r = ends G N in way_ends G (P G) (F G) (g G) d _ _ (T.way G N) r.0 r.1
