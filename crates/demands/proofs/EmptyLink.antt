-- A link left empty is an empty layer, which the tree's first test finds.
use mathlib.Core.Path.{◌≡◌, sym, ap, subst, ◌∙◌}
use mathlib.Core.Bool.{false, ◌&&◌}
use Prim.Native.Nat.{ℕ}
use native.Mathlib.Omega.{arith}
use Rattle.sets.proofs.Tests.{clash, is_false}
use Rattle.sheet.specs.Sheet.{k_of, n_of}
use Rattle.sheet.specs.Refusal.{refusal}
use Rattle.sheet.proofs.Accepted.{accepted}
use Rattle.pair_test.specs.Layers.{InLink}
use Rattle.pair_test.proofs.Laws.{layer_in}
use Rattle.rules.specs.Job.{Job, struck, unstruck}
use Rattle.cliques.specs.Graph.{Graph, lower, is_open, layered}
use Rattle.cliques.proofs.Graph.{lower_at, open_out}
use Rattle.graph.specs.Graph.{link_of, layer}
use Rattle.graph.proofs.Graph.{unstruck_out, left_class}
use Rattle.search.specs.Tree.{no_plan}
use Rattle.search.specs.Limit.{answer}
use Rattle.search.proofs.Rooted.{none_entered, tree_shut}
use Rattle.setting.specs.Setting.{Setting}
use Rattle.work_words.specs.Classes.{graph_in}
use Rattle.planner.specs.Outcome.{call_refusal, tree_of, outcome_of, outcome}
use Rattle.planner.proofs.Accepted.{call_accepted}
use Rattle.planner.proofs.Outcomes.{gave_outcome, outcome_accepted}
use Rattle.demands.specs.EmptyLink.{LeftEmpty, no_plan_at_once, EmptyLink}

module _ (job : Job) (x : Setting) (l : ℕ) (ok : refusal job.sheet ≡ 0) (empty : LeftEmpty job l) where
  abbrev by_link : Graph
  by_link = layered (graph_in job x) (layer job)

  abbrev v : ℕ
  v = lower by_link l (unstruck job)

  -- a vertex that is left in the link would be struck
  layer_empty : is_open by_link 0 (unstruck job) ≡ false
  layer_empty = is_false (is_open by_link 0 (unstruck job)) (λ e.
      let at = lower_at by_link l (unstruck job) (open_out by_link 0 (unstruck job) e l (omega arith) empty.link) in
      let left = unstruck_out job v at.live in
      let own : link_of job v ≡ l = sym (left_class job (link_of job) v left.0) ∙ at.cl in
      let s = job.sheet in
      let here = (layer_in s (k_of s) (n_of s) (accepted s ok).links v left.1).1 in
      clash (struck job v) (empty.each v (subst (λ a. InLink s a v) own here)) left.0)

  no_tree : tree_of job x ≡ no_plan 0
  unfolding tree_of
  no_tree = tree_shut x.filter (graph_in job x) (layer job) (unstruck job) x.counts
      (ap (λ b. b && is_open (graph_in job x) 0 (unstruck job)) layer_empty)

  at_once : (m : ℕ) → outcome_of job m (answer x.limit (tree_of job x)) ≡ no_plan_at_once m
  at_once m =
      ap (λ t. outcome_of job m (answer x.limit t)) no_tree ∙ ap (outcome_of job m) (none_entered x.limit)

outcome_empty : (job : Job) (x : Setting) (m w l : ℕ) → call_refusal job x m w ≡ 0 → LeftEmpty job l
    → outcome job x m w ≡ no_plan_at_once m
outcome_empty job x m w l e empty =
    outcome_accepted job x m w e ∙ at_once job x l (call_accepted job x m w e).sheet empty m

pub empty_link : EmptyLink
empty_link = record {
  given = outcome_empty;
  called = λ job x c l e empty. sym (gave_outcome c.meets.gives) ∙ outcome_empty job x c.m c.w l e empty;
}
