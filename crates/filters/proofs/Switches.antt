-- The filters of a node keep their promise under every filter number, and with filters added leave no more.
use Rattle.std.proofs.Common.{◌≡◌, refl, Bool, true, false, ℕ}
use Rattle.sets.specs.Sets.{Set, ◌⊆◌}
use Rattle.sets.proofs.Tests.{clash}
use Rattle.cliques.specs.Graph.{Graph}
use Rattle.filters.specs.Promise.{Filter, Refines, Promise}
use Rattle.filters.specs.Switches.{switched, idle, on, at_node, Adds}
use Rattle.cliques.proofs.Graph.{open_mono}
use Rattle.filters.proofs.Sweep.{sweep_promise}
use Rattle.filters.proofs.Failed.{failed_promise}

module _ (G : Graph) where
  -- one filter after another
  after : Filter → Filter → Filter
  after F H d L = H d (F d L)

  after_refines : (F' F H' H : Filter) → Refines G F' F → Refines G H' H → ((d : ℕ) (L : Set) → H' d L ⊆ L)
      → Refines G (after F' H') (after F H)
  unfolding after
  after_refines F' F H' H f h t d L M s o = h d _ _ (f d L M s (open_mono G d _ _ (t d (F' d L)) o)) o

  after_promise : (F H : Filter) → Promise G F → Promise G H → Promise G (after F H)
  after_promise F H f h = record {
    strikes = unfold after in (λ d L u x. f.strikes d L u (h.strikes d (F d L) u x));
    keeps = unfold after in (λ d L c p. h.keeps d _ c (f.keeps d L c p));
    refines = after_refines F F H H f.refines h.refines h.strikes;
  }

  idle_promise : Promise G idle
  unfolding idle
  idle_promise = record { strikes = λ d L u h. h; keeps = λ d L c p. p; refines = λ d L M s o. s }

  pub on_promise : (b : Bool) (F : Filter) → Promise G F → Promise G (on b F)
  unfolding on
  on_promise true F p = p
  on_promise false F p = idle_promise

  refines_idle : (F : Filter) → Promise G F → Refines G F idle
  unfolding idle
  refines_idle F f d L M s o u h = s u (f.strikes d L u h)

  on_refines : (b' b : Bool) (F : Filter) → Promise G F → (b ≡ true → b' ≡ true) → Refines G (on b' F) (on b F)
  unfolding on
  on_refines true true F p h = p.refines
  on_refines true false F p h = refines_idle F p
  on_refines false true F p h = clash false (h refl) refl
  on_refines false false F p h = idle_promise.refines

  pub at_node_promise : (f : ℕ) → Promise G (at_node f G)
  unfolding at_node after
  at_node_promise f = after_promise _ _ (on_promise (switched f 2) _ (sweep_promise G))
      (on_promise (switched f 4) _ (failed_promise G))

  pub at_node_refines : (f' f : ℕ) → Adds f' f → Refines G (at_node f' G) (at_node f G)
  unfolding at_node after
  at_node_refines f' f a = after_refines _ _ _ _ (on_refines (switched f' 2) (switched f 2) _ (sweep_promise G)
      a.swept)
      (on_refines (switched f' 4) (switched f 4) _ (failed_promise G) a.unit)
      (on_promise (switched f' 4) _ (failed_promise G)).strikes
