-- The class list of an accepted job is a partition under each choice.
use Rattle.std.proofs.Common.{◌≡◌, refl, true, false, not, List, ◌⊎◌, inl, inr, ℕ, ◌≤◌, ◌<◌, arith, eqb, eq-eqb}
use Rattle.sets.proofs.Tests.{clash, is_false, not_out, or_case}
use Rattle.sheet.specs.Sheet.{k_of, n_of}
use Rattle.sheet.specs.Accepted.{Accepted}
use Rattle.cliques.specs.Graph.{Layers}
use Rattle.rules.specs.Job.{Job, unstruck}
use Rattle.pair_test.proofs.Laws.{layer_in}
use Rattle.graph.specs.Graph.{link_of, edge, graph_of}
use Rattle.graph.proofs.Graph.{edge_sym, edge_out}
use Rattle.partition.specs.Partition.{class_of, is_partition, Partition}
use Rattle.partition.proofs.Partition.{layers_partition, classes_partition}
use Rattle.setting.specs.Setting.{Setting}
use Rattle.work_words.specs.Classes.{list_ok, layer_list, classes_of}

module _ (job : Job) (A : Accepted job.sheet) where
  abbrev s : List ℕ
  s = job.sheet

  pub link_small : (v : ℕ) → v < n_of job.sheet → link_of job v < k_of job.sheet
  link_small v l = (layer_in s (k_of s) (n_of s) A.links v l).0

  pub links_apart : (u v : ℕ) → edge job u v ≡ true → link_of job u ≡ link_of job v → ⊥
  links_apart u v h = (edge_out job u v h).sheet.apart

  self : (v : ℕ) → edge job v v ≡ false
  self v = is_false (edge job v v) (λ h. links_apart v v h refl)

  layers_ok : Partition (n_of job.sheet) (k_of job.sheet) (edge job) (layer_list job)
  layers_ok = layers_partition (n_of s) (k_of s) (edge job) (link_of job) link_small links_apart

  module _ (x : Setting) (small : x.choice ≤ 2) (list : list_ok job x ≡ true) where
    -- a partition into k independent classes, under each choice
    pub classes_ok : Partition (n_of job.sheet) (k_of job.sheet) (edge job) (classes_of job x)
    unfolding classes_of
    classes_ok = classes_partition (n_of s) (k_of s) (edge job) (edge_sym job) self x.choice (layer_list job)
        x.callers layers_ok
        (λ a b. checked a b (or_case (not (eqb x.choice 2)) _ (unfold list_ok in list)))
      where
        checked : (x.choice ≡ 0 → ⊥) → (x.choice ≡ 1 → ⊥)
            → (not (eqb x.choice 2) ≡ true) ⊎ (is_partition (n_of s) (k_of s) (edge job) x.callers ≡ true)
            → is_partition (n_of s) (k_of s) (edge job) x.callers ≡ true
        checked a b (inl y) = clash (eqb x.choice 2) (eq-eqb x.choice 2 (omega arith))
            (not_out (eqb x.choice 2) y)
        checked a b (inr y) = y

    -- so the classes are layers too
    pub classes_layers : (cls : ℕ → ℕ) → Layers (graph_of job cls) (class_of (classes_of job x)) (unstruck job)
    classes_layers cls = record {
      sy = edge_sym job;
      apart = λ u v h e. let r = (edge_out job u v h).sheet in clash (edge job u v) h
          (classes_ok.apart u v r.left r.right e);
      few = λ v l _. classes_ok.below v l;
    }
