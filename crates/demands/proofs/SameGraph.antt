-- Jobs with the same graph run alike: vertices, links, the link of each vertex, strikes and adjacency make the classes,
-- the filters and the tree.
use mathlib.Core.Path.{◌≡◌, refl, ap, ◌∙◌}
use mathlib.Core.Bool.{Bool, true, false, not, cond, ◌&&◌, ◌||◌}
use mathlib.Core.List.{List}
use Prim.Native.Nat.{ℕ}
use lib.Dec.{eqb, ltb, leb}
use Rattle.sets.specs.Sets.{Set}
use Rattle.channels.specs.Channels.{channels_ok}
use Rattle.sheet.specs.Sheet.{k_of, n_of}
use Rattle.sheet.specs.Refusal.{refusal}
use Rattle.rules.specs.Job.{Job, struck, unstruck}
use Rattle.graph.specs.Graph.{link_of, edge}
use Rattle.partition.specs.Partition.{class_of, layers_of, is_partition, classes}
use Rattle.search.specs.Tree.{Tree}
use Rattle.search.specs.Setting.{tree}
use Rattle.search.specs.Limit.{Answer, plan, none, stopped, answer}
use Rattle.setting.specs.Setting.{Setting}
use Rattle.work_words.specs.Layout.{work_words}
use Rattle.work_words.specs.Classes.{list_ok, classes_of}
use Rattle.planner.specs.Outcome.{setting_cause, call_refusal, tree_of, outcome_of, refused, outcome}
use Rattle.demands.specs.SameGraph.{SameGraph, SameVerdict, GraphDecides}

-- classes, tree and the test of the caller's list, by the graph alone
classes_by : ℕ → ℕ → (ℕ → ℕ) → Set → (ℕ → ℕ → Bool) → Setting → List ℕ
classes_by n k lay out adj x = classes n k adj x.choice (layers_of n lay) x.callers

tree_by : ℕ → ℕ → (ℕ → ℕ) → Set → (ℕ → ℕ → Bool) → Setting → Tree
tree_by n k lay out adj x =
    let l = classes_by n k lay out adj x in
    tree x.counts x.filter (record { n = n; k = k; cls = λ v. cond (out v) k (class_of l v); adj = adj })
    (λ v. cond (out v) k (lay v)) (λ v. not (out v) && ltb v n)

list_by : ℕ → ℕ → (ℕ → ℕ) → Set → (ℕ → ℕ → Bool) → Setting → Bool
list_by n k lay out adj x = not (eqb x.choice 2) || is_partition n k adj x.callers

module _ (job job' : Job) (S : SameGraph job job') where
  -- what is made of the graph is the same
  by_graph {ℓ} : {A : Type ℓ} (f : ℕ → ℕ → (ℕ → ℕ) → Set → (ℕ → ℕ → Bool) → A)
      → f (n_of job.sheet) (k_of job.sheet) (link_of job) (struck job) (edge job)
      ≡ f (n_of job'.sheet) (k_of job'.sheet) (link_of job') (struck job') (edge job')
  by_graph f =
      ap (λ n. f n (k_of job.sheet) (link_of job) (struck job) (edge job)) S.vertices
      ∙ ap (λ k. f (n_of job'.sheet) k (link_of job) (struck job) (edge job)) S.links
      ∙ ap (λ l. f (n_of job'.sheet) (k_of job'.sheet) l (struck job) (edge job)) S.layers
      ∙ ap (λ o. f (n_of job'.sheet) (k_of job'.sheet) (link_of job') o (edge job)) S.strikes
      ∙ ap (λ a. f (n_of job'.sheet) (k_of job'.sheet) (link_of job') (struck job') a) S.edges

  module _ (x : Setting) where
    same_classes : classes_of job x ≡ classes_of job' x
    unfolding classes_of classes_by
    same_classes = by_graph (λ n k lay out adj. classes_by n k lay out adj x)

    pub same_tree : tree_of job x ≡ tree_of job' x
    unfolding tree_of classes_of unstruck tree_by classes_by
    same_tree = by_graph (λ n k lay out adj. tree_by n k lay out adj x)

    same_list_lem : list_ok job x ≡ list_ok job' x
    unfolding list_ok list_by
    same_list_lem = by_graph (λ n k lay out adj. list_by n k lay out adj x)

    module _ (r : refusal job.sheet ≡ refusal job'.sheet)
        (q : channels_ok job.channels ≡ channels_ok job'.channels) (w w' : ℕ)
        (h : leb (work_words job.sheet) w ≡ leb (work_words job'.sheet) w') (m : ℕ) where
      pub same_refusal : call_refusal job x m w ≡ call_refusal job' x m w'
      unfolding call_refusal setting_cause
      same_refusal = rw (r, S.links, h, q, same_list_lem)

      same_answer : (a : Answer) → SameVerdict (outcome_of job m a) (outcome_of job' m a)
      same_answer (plan p n) = record { answer = refl; nodes = refl }
      same_answer (none n) = record { answer = refl; nodes = refl }
      same_answer (stopped n) = record { answer = refl; nodes = refl }

      same_unless : (b : Bool) (c : ℕ) (a : Answer)
          → SameVerdict (elim b [ true ↦ outcome_of job m a | false ↦ refused c m ])
          (elim b [ true ↦ outcome_of job' m a | false ↦ refused c m ])
      same_unless true c a = same_answer a
      same_unless false c a = record { answer = refl; nodes = refl }

      same_run : SameVerdict (outcome job x m w) (outcome job' x m w')
      unfolding outcome
      same_run =
          let c = call_refusal job' x m w' in
          rw (same_refusal, same_tree) (same_unless (eqb c 0) c (answer x.limit (tree_of job' x)))

pub graph_decides : GraphDecides
graph_decides = record {
  classes = same_classes;
  trees = same_tree;
  runs = λ job job' S r q w w' h x m. same_run job job' S x r q w w' h m;
}
