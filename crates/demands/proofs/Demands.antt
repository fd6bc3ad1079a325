-- Demands 1 and 3 of the definitions: every sentence, for all eight filter numbers, all three choices, every accepted
-- list and every limit.
use mathlib.Core.Path.{◌≡◌, refl, sym, ap, subst, ◌∙◌}
use mathlib.Core.Bool.{cond}
use mathlib.Core.List.{List}
use Prim.Native.Nat.{ℕ, ◌≤◌, ◌<◌}
use native.Mathlib.Omega.{arith}
use borrow.Author.Tests.{lt-ltb}
use Rattle.sets.specs.Sets.{Set}
use Rattle.sets.proofs.Lists.{get_d_tabulate}
use Rattle.sheet_rows.specs.Rows.{freq}
use Rattle.sheet.specs.Sheet.{k_of, freq_part}
use Rattle.sheet.specs.Refusal.{refusal}
use Rattle.sheet.specs.Accepted.{Accepted}
use Rattle.sheet.proofs.Accepted.{accepted}
use Rattle.rules.specs.Job.{Job, unstruck}
use Rattle.rules.specs.Plans.{cells_of}
use Rattle.cliques.specs.Graph.{Graph, Clique, Layers}
use Rattle.cliques.specs.Listing.{by_layer}
use Rattle.cliques.proofs.Listing.{clique_any, by_layer_clique, by_layer_at, by_layer_back, by_layer_same, by_layer_hit}
use Rattle.filters.specs.Switches.{Adds}
use Rattle.graph.specs.Graph.{link_of, unless_struck, layer, graph_of}
use Rattle.graph.specs.Matches.{KeepsEveryRule, IsClique, assignment, vertices}
use Rattle.graph.proofs.Graph.{links_of, layers_left, left_clique, clique_left}
use Rattle.graph.proofs.Matches.{vertices_clique, vertices_same, keeps_first_k, matches}
use Rattle.partition.specs.Partition.{class_of}
use Rattle.search.specs.Tree.{Tree, found, no_plan, nodes}
use Rattle.search.specs.Limit.{Answer, plan, none, stopped, answer}
use Rattle.search.proofs.Order.{UpTo, same, earlier, upto_same}
use Rattle.search.proofs.Tree.{All, Le, le_nodes}
use Rattle.search.proofs.First.{First}
use Rattle.search.proofs.Limit.{Follows, answer_follows}
use Rattle.search.proofs.Setting.{tree_le, tree_good, tree_first}
use Rattle.cells.specs.Cells.{cell_of, plan_cells}
use Rattle.setting.specs.Setting.{Setting}
use Rattle.work_words.specs.Classes.{classes_of, graph_in}
use Rattle.work_words.proofs.Classes.{classes_layers}
use Rattle.planner.specs.Outcome.{tree_of, outcome_of}
use Rattle.planner.proofs.Accepted.{Call, call_accepted, choice_small}
use Rattle.planner.proofs.Outcomes.{outcome_refused, outcome_accepted}
use Rattle.demands.specs.Demands.{by_class, Later, Other, Answered, with_filter, Demand1, Demand3}
use Rattle.demands.proofs.Answers.{answer_case}

module _ (job : Job) (x : Setting) (m w : ℕ) (C : Call job x m w) where
  abbrev s : List ℕ
  s = job.sheet

  abbrev G : Graph
  G = graph_in job x

  abbrev cls : ℕ → ℕ
  cls = class_of (classes_of job x)

  abbrev by_link : Graph
  by_link = graph_of job (link_of job)

  abbrev by_list : Graph
  by_list = graph_of job (class_of (classes_of job x))

  abbrev L : Set
  L = unstruck job

  ok : refusal job.sheet ≡ 0
  ok = C.sheet

  A : Accepted job.sheet
  A = accepted s ok

  -- links and classes are layers, whatever the classes of the graph; for the tree a struck vertex is in none
  by_links : (g : ℕ → ℕ) → Layers (graph_of job g) (link_of job) (unstruck job)
  by_links = links_of job A

  by_classes : (g : ℕ → ℕ) → Layers (graph_of job g) (class_of (classes_of job x)) (unstruck job)
  by_classes = classes_layers job A x (choice_small x C.setting) C.list

  left : Layers (graph_in job x) (layer job) (unstruck job)
  left = let g = unless_struck job cls in layers_left job g (link_of job) (by_links g)

  -- a k-clique of the job's graph in these classes
  any_class : (c : ℕ → ℕ) → Clique (graph_in job x) 0 L c → IsClique job c
  any_class c p = let q = clique_any G L c p in record { lt = q.lt; live = q.live; joined = q.joined }

  -- a rule-keeping assignment, listed by class, is a clique
  by_class_is : (f : ℕ → ℕ) → KeepsEveryRule job f → Clique (graph_in job x) 0 L (by_class job x f)
  by_class_is f K = left_clique job cls (by_layer_clique by_link cls L (by_classes (link_of job)) (vertices job f)
      (clique_any by_link L (vertices job f) (vertices_clique job ok f K)))

  -- the cells of a plan are its assignment
  cells_are : (c : ℕ → ℕ) (l : ℕ) → l < k_of job.sheet → cells_of (plan_cells job c m) l ≡ assignment job c l
  unfolding plan_cells cell_of
  cells_are c l h = let k = C.cells in
      get_d_tabulate m _ l 0 (omega arith) ∙ ap (λ b. cond b (assignment job c l) 0) (lt-ltb l (k_of s) h)

  module _ (c : ℕ → ℕ) (p : Clique (graph_in job x) 0 L c) where
    -- listed by the bytes of its classes, and by link
    listed : Clique (graph_of job (class_of (classes_of job x))) 0 L c
    listed = clique_left job cls p

    by_link_lem : Clique (graph_of job (link_of job)) 0 L (by_layer (k_of s) (link_of job) c)
    by_link_lem = by_layer_clique by_list (link_of job) L (by_links cls) c (clique_any by_list L c listed)

    plan_keeps : KeepsEveryRule job (cells_of (plan_cells job c m))
    plan_keeps = keeps_first_k job ok (assignment job c) (cells_of (plan_cells job c m)) (λ l h. sym (cells_are c l h))
        ((matches job ok).there c (any_class c p))

    -- the plan's own cells, listed by class, are the plan
    plan_listed : (j : ℕ) → j < k_of s → by_class job x (cells_of (plan_cells job c m)) j ≡ c j
    plan_listed j h =
        by_layer_same (k_of s) cls (vertices job (cells_of (plan_cells job c m))) (by_layer (k_of s) (link_of job) c) j
        (λ l i. ap (λ y. vertices job (λ _. y) l) (cells_are c l i)
        ∙ vertices_same job ok (by_layer (k_of s) (link_of job) c) by_link_lem l i)
        (by_layer_hit by_link cls L (by_classes (link_of job)) (by_layer (k_of s) (link_of job) c)
        (clique_any by_link L (by_layer (k_of s) (link_of job) c) by_link_lem) j h)
        ∙ by_layer_back by_list (link_of job) L (by_links cls) (by_classes (link_of job)) c listed j h

    -- an assignment that is listed as the plan is takes the plan's frequencies
    listed_same : (f : ℕ → ℕ) → KeepsEveryRule job f → ((j : ℕ) → j < k_of s → by_class job x f j ≡ c j)
        → (l : ℕ) → l < k_of s → cells_of (plan_cells job c m) l ≡ f l
    listed_same f K e l h =
        let v = vertices_clique job ok f K in
        let a = clique_any by_link L (vertices job f) v in
        let back : by_layer (k_of s) (link_of job) (by_class job x f) l ≡ vertices job f l =
        by_layer_back by_link cls L (by_classes (link_of job)) (by_links cls) (vertices job f) v l h in
        let here : by_layer (k_of s) (link_of job) (vertices job f) l ≡ vertices job f l =
        subst (λ i. by_layer (k_of s) (link_of job) (vertices job f) i ≡ vertices job f l) (v.at l (omega arith) h).cl
        (by_layer_at by_link (link_of job) L (by_links (link_of job)) (vertices job f) a l h) in
        cells_are c l h
        ∙ ap (freq (freq_part s)) (sym (by_layer_same (k_of s) (link_of job) (by_class job x f) c l e
        (by_layer_hit by_list (link_of job) L (by_links cls) c (clique_any by_list L c listed) l h)) ∙ back ∙ sym here)
        ∙ (matches job ok).back_there f K l h

    -- every other one is later
    plan_first : ((e : ℕ → ℕ) → Clique (graph_in job x) 0 L e → UpTo (k_of s) 0 c e) → (f : ℕ → ℕ) → KeepsEveryRule job f
        → Other job (cells_of (plan_cells job c m)) f → Later job x (cells_of (plan_cells job c m)) f
    plan_first first f K o = go (upto_same (λ j a b. plan_listed j b) (first (by_class job x f) (by_class_is f K)))
      where
        go : UpTo (k_of s) 0 (by_class job x (cells_of (plan_cells job c m))) (by_class job x f)
            → Later job x (cells_of (plan_cells job c m)) f
        go (earlier e) = e
        go (same e) = absurd (o.2 (listed_same f K (λ j h. sym (e j (omega arith) h) ∙ plan_listed j h) o.0 o.1))

  -- what the tree says of its plan
  good : (t : Tree) → tree_of job x ≡ t → All (Clique (graph_in job x) 0 L) t
  unfolding tree_of
  good t e = subst (All (Clique G 0 L)) e (tree_good G (layer job) L left x.counts x.filter)

  first : (t : Tree) → tree_of job x ≡ t → First (graph_in job x) 0 L t
  unfolding tree_of
  first t e = subst (First G 0 L) e (tree_first G (layer job) L left x.counts x.filter)

  answered : Answered job x (outcome_of job m (answer x.limit (tree_of job x)))
  answered = answer_case (λ a. Answered job x (outcome_of job m a)) x.limit (tree_of job x)
      (λ c t e l. let q = ap nodes e in record {
        stops = λ h. absurd (omega arith);
        stopped = λ h. absurd (omega arith);
        number = omega arith;
        says_no_plan = λ h. absurd (omega arith);
        none_exists = λ h n. absurd (h (cells_of (plan_cells job c m)) (plan_keeps c (good (found c t) e)));
        else_found = λ a b. refl;
        keeps = λ h. plan_keeps c (good (found c t) e);
        first = λ h. plan_first c (good (found c t) e) (first (found c t) e);
      })
      (λ t e l. let q = ap nodes e in record {
        stops = λ h. absurd (omega arith);
        stopped = λ h. absurd (omega arith);
        number = omega arith;
        says_no_plan = λ h f K. first (no_plan t) e (by_class job x f) (by_class_is f K);
        none_exists = λ h n. refl;
        else_found = λ a b. absurd (a refl);
        keeps = λ h. absurd (omega arith);
        first = λ h. absurd (omega arith);
      })
      (λ l. record {
        stops = λ h. refl;
        stopped = λ h. l;
        number = omega arith;
        says_no_plan = λ h. absurd (omega arith);
        none_exists = λ h n. absurd (n refl);
        else_found = λ a b. absurd (b refl);
        keeps = λ h. absurd (omega arith);
        first = λ h. absurd (omega arith);
      })

  -- with filters added the tree has the same plan in no more nodes
  trees_le : (filter : ℕ) → Adds filter x.filter → Le (tree_of job (with_filter x filter)) (tree_of job x)
  unfolding tree_of classes_of
  trees_le filter a = tree_le G (layer job) L left x.counts x.counts (λ h. h) filter x.filter a

pub same_told : (job : Job) (m : ℕ) (a' a : Answer) → Follows a' a → ((outcome_of job m a).answer ≡ 102 → ⊥)
    → ((outcome_of job m a').answer ≡ (outcome_of job m a).answer) × ((outcome_of job m a').cells ≡ (outcome_of job m a).cells)
same_told job m (plan e t) (plan c u) f n = (refl, ap (λ p. plan_cells job p m) f.0)
same_told job m (plan e t) (none u) f n = absurd f
same_told job m (plan e t) (stopped u) f n = absurd (n refl)
same_told job m (none t) (plan c u) f n = absurd f
same_told job m (none t) (none u) f n = (refl, refl)
same_told job m (none t) (stopped u) f n = absurd (n refl)
same_told job m (stopped t) (plan c u) f n = absurd f
same_told job m (stopped t) (none u) f n = absurd f
same_told job m (stopped t) (stopped u) f n = absurd (n refl)

pub demand3 : Demand3
demand3 = record {
  answered = λ job x m w e.
      subst (Answered job x) (sym (outcome_accepted job x m w e)) (answered job x m w (call_accepted job x m w e));
  added = λ job x filter m w a e' e.
      let le = trees_le job x m w (call_accepted job x m w e) filter a in
      rw (outcome_accepted job x m w e, outcome_accepted job (with_filter x filter) m w e')
      (record {
        smaller = le_nodes (tree_of job (with_filter x filter)) (tree_of job x) le;
        same = same_told job m (answer x.limit (tree_of job (with_filter x filter))) (answer x.limit (tree_of job x))
            (answer_follows x.limit (tree_of job (with_filter x filter)) (tree_of job x) le);
      });
}

told_between : (job : Job) (m : ℕ) (a : Answer)
    → (100 ≤ (outcome_of job m a).answer) × ((outcome_of job m a).answer ≤ 102)
told_between job m (plan c t) = (omega arith, omega arith)
told_between job m (none t) = (omega arith, omega arith)
told_between job m (stopped t) = (omega arith, omega arith)

pub demand1 : Demand1
demand1 = record {
  refused = outcome_refused;
  accepted = λ job x m w e. rw (outcome_accepted job x m w e) (told_between job m (answer x.limit (tree_of job x)));
}
