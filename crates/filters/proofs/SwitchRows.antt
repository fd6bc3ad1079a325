-- The filters of a node as they are switched, one after another.
use Rattle.std.proofs.Common.{◌≡◌, refl, sym, ap, ◌∙◌, Bool, true, false, List, ℕ}
use Rattle.sets.specs.Sets.{Set}
use Rattle.sets.proofs.Tests.{clash, is_false}
use Rattle.rows.proofs.Rows.{outside_none, outside_then}
use Rattle.cliques.specs.Graph.{Graph, is_open}
use Rattle.cliques.specs.Words.{own_row, Node, Room}
use Rattle.cliques.proofs.Graph.{open_mono}
use Rattle.cliques.proofs.Words.{node_less}
use Rattle.cliques.specs.declared.Place.{Place}
use Rattle.filters.specs.Failed.{failed}
use Rattle.filters.specs.Filtered.{Filtered}
use Rattle.filters.specs.Sweep.{sweep}
use Rattle.filters.specs.Switches.{switched, idle, on, at_node}
use Rattle.filters.proofs.Failed.{failed_promise}
use Rattle.filters.proofs.Sweep.{sweep_promise}
use Rattle.filters.proofs.Switches.{on_promise}

module _ {s d : ℕ} {place : Place} (f : ℕ) where
  -- `unit_filter`
  pub unit_on : {p q : List ℕ} {r : Bool} → switched f 4 ≡ true → Filtered failed s d place p q r
      → Filtered (λ G. on (switched f 4) (failed G)) s d place p q r
  unfolding on
  unit_on e x = rw (e, on) x

  pub unit_off : {p : List ℕ} {r : Bool} → switched f 4 ≡ false
      → ((G : Graph) → Node G d place p → r ≡ is_open G d (own_row place p))
      → Filtered (λ G. on (switched f 4) (failed G)) s d place p p r
  unfolding on idle
  unit_off {p} {r} e x = rw (e, on) (idle_filtered x)
    where
      idle_filtered : ((G : Graph) → Node G d place p → r ≡ is_open G d (own_row place p))
          → Filtered (λ G. idle) s d place p p r
      idle_filtered x = record { rest = outside_none _ _ p; opens = x; says = λ G N o. refl }

  -- `filter`
  pub unswept : {p q : List ℕ} {r : Bool} → switched f 2 ≡ false
      → Filtered (λ G. on (switched f 4) (failed G)) s d place p q r
      → Filtered (at_node f) s d place p q r
  unfolding at_node on idle
  unswept e x = record {
    rest = x.rest;
    opens = λ G N. rw (e, on) (x.opens G N);
    says = λ G N o. rw (e, on) (x.says G N o);
  }

  module _ (e : switched f 2 ≡ true) where
    pub swept_shut : {p q : List ℕ} → Filtered sweep s d place p q false → Filtered (at_node f) s d place p q false
    unfolding at_node on
    swept_shut {p} {q} x = record {
      rest = x.rest;
      opens = λ G N. rw (e, on) (sym (is_false _ (λ o. clash (is_open G d (sweep G d (own_row place p)))
          (open_mono G d _ _ ((on_promise G (switched f 4) (failed G) (failed_promise G)).strikes d
          (sweep G d (own_row place p))) o) (sym (x.opens G N)))));
      says = λ G N t. clash false t refl;
    }

    pub swept_then : {p p₁ q : List ℕ} {r : Bool} {len : ℕ} → Room s place len → Filtered sweep s d place p p₁ true
        → Filtered (λ G. on (switched f 4) (failed G)) s d place p₁ q r → Filtered (at_node f) s d place p q r
    unfolding at_node on
    swept_then {p} {p₁} {q} {r} R x y = record {
      rest = outside_then x.rest y.rest;
      opens = λ G N. rw (e, on) (y.opens G (node G N)
          ∙ ap (λ (L : Set). is_open G d (on (switched f 4) (failed G) d L)) (own G N));
      says = λ G N t. rw (e, on) (y.says G (node G N) t ∙ ap (on (switched f 4) (failed G) d) (own G N));
    }
      where
        own : (G : Graph) → Node G d place p → own_row place p₁ ≡ sweep G d (own_row place p)
        own G N = x.says G N refl

        node : (G : Graph) → Node G d place p → Node G d place p₁
        node G N = node_less x.rest R.masks_after R.graph_after
            (λ u h. (sweep_promise G).strikes d (own_row place p) u (sym (ap (λ (X : Set). X u) (own G N)) ∙ h)) N
