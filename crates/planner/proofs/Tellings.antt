-- From the words that are filled and the search that was run to the outcome of the call.
use mathlib.Core.Path.{◌≡◌, refl, sym, ap, subst, ◌∙◌}
use mathlib.Core.Bool.{Bool, true, false}
use mathlib.Core.List.{List}
use Prim.Native.Nat.{ℕ, ◌-◌, ◌≤◌, ◌<◌}
use native.Mathlib.Omega.{arith}
use lib.Dec.{eqb, leb, ltb, lit<}
use lib.ListN.{length}
use borrow.Author.Tests.{ltb-true}
use Rattle.std.proofs.Common.{Ok, Err}
use Rattle.sets.specs.Below.{any}
use Rattle.sets.proofs.Tests.{bool, case}
use Rattle.sets.proofs.Below.{any_same}
use Rattle.sets.proofs.Lists.{tabulate_same}
use Rattle.cliques.specs.Graph.{Clique}
use Rattle.cliques.specs.Words.{with_masks, three_rows, Room}
use Rattle.cliques.specs.declared.Place.{Place}
use Rattle.cliques.proofs.Listing.{clique_any, by_layer_hit, by_layer_same}
use Rattle.sheet_rows.specs.Form.{most_freqs}
use Rattle.sheet_rows.specs.Rows.{freq}
use Rattle.sheet.specs.Sheet.{k_of, freq_part}
use Rattle.sheet.specs.Accepted.{Accepted}
use Rattle.rules.specs.Job.{Job, job_of, unstruck}
use Rattle.graph.specs.Graph.{link_of, unless_struck, layer, graph_of}
use Rattle.graph.proofs.Graph.{links_of, layers_left}
use Rattle.partition.specs.Partition.{class_of}
use Rattle.search.specs.Tree.{Tree, found, no_plan}
use Rattle.search.specs.Limit.{Answer, plan, none, stopped, answer, answer_number, run_number}
use Rattle.search.specs.Setting.{tree}
use Rattle.search.specs.Walk.{Tells, Cells, Space}
use Rattle.search.specs.Searched.{Searched}
use Rattle.search.specs.declared.RunOutcome.{RunOutcome}
use Rattle.search.proofs.Tree.{All}
use Rattle.search.proofs.Setting.{tree_good}
use Rattle.cells.specs.Cells.{chosen_by, cell_of, plan_cells, Chosen}
use Rattle.setting.specs.Setting.{Setting}
use Rattle.work_words.specs.Layout.{LaidOut}
use Rattle.work_words.specs.Classes.{list_ok, classes_of, graph_in}
use Rattle.work_words.specs.Filled.{Filled}
use Rattle.planner.specs.Outcome.{outcome_of, tree_of, outcome}
use Rattle.planner.specs.Planned.{Gives, Ready, Finished}
use Rattle.planner.specs.declared.Refusal.{Refusal}
use Rattle.planner.specs.declared.Refusal.TheVariants as RefusedFor
use Rattle.planner.proofs.Outcomes.{outcome_accepted, gives_refused, ready_accepted, ready_refused}

-- a property of an answer's plan, if any
abbrev pub AllOf : ((ℕ → ℕ) → Type 0) → Answer → Type 0
AllOf P (plan p t) = P p
AllOf P (none t) = Unit {0}
AllOf P (stopped t) = Unit {0}

answer_all : (P : (ℕ → ℕ) → Type 0) (l : ℕ) (t : Tree) → All P t → AllOf P (answer l t)
answer_all P l (found c s) h = case (AllOf P) (leb s l) (plan c s) (stopped l) (λ e. h) (λ e. tt)
answer_all P l (no_plan s) h = case (AllOf P) (leb s l) (none s) (stopped l) (λ e. tt) (λ e. tt)

module _ (job : Job) (A : Accepted job.sheet) (cls : ℕ → ℕ) (on : Bool) where
  abbrev s : List ℕ
  s = job.sheet

  hit : (p : ℕ → ℕ) → Clique (graph_of job cls) 0 (unstruck job) p → (l : ℕ) → l < k_of job.sheet
      → any (k_of job.sheet) (λ j. eqb (link_of job (p j)) l) ≡ true
  hit p C l h = by_layer_hit (graph_of job cls) (link_of job) (unstruck job) (links_of job A cls) p
      (clique_any (graph_of job cls) (unstruck job) p C) l h

  -- the cells of a plan that was found list a vertex of each link
  chosen_from : (a : Answer) (c c' : List ℕ) → answer_number a ≡ 100
      → AllOf (Clique (graph_of job cls) 0 (unstruck job)) a
      → Cells on 0 (k_of job.sheet) c c' a → k_of job.sheet ≤ length c' → Chosen job.sheet c'
  chosen_from (plan p t) c c' e C L long = record {
    accepted = A;
    listed = long;
    lt = λ j h. rw (L.here j (omega arith) h) (C.at j (omega arith) h).lt;
    hit = λ l h. any_same (k_of s) (λ j. eqb (link_of job (chosen_by c' j)) l) (λ j. eqb (link_of job (p j)) l)
        (λ j i. ap (λ v. eqb (link_of job v) l) (L.here j (omega arith) i)) ∙ hit p C l h;
  }
  chosen_from (none t) c c' e C L long = absurd (omega arith)
  chosen_from (stopped t) c c' e C L long = absurd (omega arith)

  -- the cells filled by what was chosen are those of the plan
  cells_same : (p : ℕ → ℕ) (c : List ℕ) (m : ℕ) → Clique (graph_of job cls) 0 (unstruck job) p
      → ((j : ℕ) → j < k_of job.sheet → chosen_by c j ≡ p j)
      → plan_cells (job_of job.sheet) (chosen_by c) m ≡ plan_cells job p m
  unfolding plan_cells cell_of
  cells_same p c m C h = tabulate_same m (cell_of job (chosen_by c)) (cell_of job p)
      (λ l i. bool (ltb l (k_of s))
      (λ e. rw e (ap (freq (freq_part s))
      (by_layer_same (k_of s) (link_of job) (chosen_by c) p l h (hit p C l (ltb-true l (k_of s) e)))))
      (λ e. rw e refl))

  -- what was finished is what the answer says
  finished_gives : (a : Answer) (c c' cells : List ℕ) (m : ℕ) (out : RunOutcome) → Tells out a
      → AllOf (Clique (graph_of job cls) 0 (unstruck job)) a → Cells on 0 (k_of job.sheet) c c' a
      → Finished job.sheet c' out.verdict m cells
      → Gives (outcome_of job m a) (Ok out) cells
  finished_gives (plan p t) c c' cells m out T C L F = record {
    answer = T.number;
    nodes = T.nodes;
    cells = F.found T.number ∙ cells_same p c' m C (λ j h. L.here j (omega arith) h);
  }
  finished_gives (none t) c c' cells m out T C L F =
      let e = T.number in
      record { answer = T.number; nodes = T.nodes; cells = F.other (λ h. omega arith) }
  finished_gives (stopped t) c c' cells m out T C L F =
      let e = T.number in
      record { answer = T.number; nodes = T.nodes; cells = F.other (λ h. omega arith) }

-- the search of words that are filled
module _ {job : Job} {x : Setting} {place : Place} {layers : ℕ} {p p' c c' : List ℕ} {out : RunOutcome}
    (A : Accepted job.sheet) (links : place.k ≡ k_of job.sheet) (F : Filled job x place layers p true)
    (S : Searched x.counts x.filter place layers x.limit p p' c c' out) where
  -- the class of each vertex
  abbrev cls : ℕ → ℕ
  cls = unless_struck job (class_of (classes_of job x))

  pub tells : Tells out (answer x.limit (tree_of job x))
  unfolding tree_of
  tells = subst (λ L. Tells out (answer x.limit (tree x.counts x.filter (graph_in job x) (layer job) L)))
      (F.root refl)
      (S.says (graph_in job x) (layer job) (F.by_class_is refl) (F.by_layer_is refl))

  cells_are : Cells x.counts 0 (k_of job.sheet) c c' (answer x.limit (tree_of job x))
  unfolding tree_of
  cells_are = subst (λ k. Cells x.counts 0 k c c'
      (answer x.limit (tree x.counts x.filter (graph_in job x) (layer job) (unstruck job)))) links
      (subst (λ L. Cells x.counts 0 place.k c c'
      (answer x.limit (tree x.counts x.filter (graph_in job x) (layer job) L)))
      (F.root refl) (S.cells (graph_in job x) (layer job) (F.by_class_is refl) (F.by_layer_is refl)))

  good : AllOf (Clique (graph_in job x) 0 (unstruck job)) (answer x.limit (tree_of job x))
  unfolding tree_of
  good = answer_all (Clique (graph_in job x) 0 (unstruck job)) x.limit
      (tree x.counts x.filter (graph_in job x) (layer job) (unstruck job))
      (tree_good (graph_in job x) (layer job) (unstruck job) (layers_left job cls (link_of job) (links_of job A cls))
      x.counts x.filter)

  pub search_chosen : run_number out.verdict ≡ 100 → k_of job.sheet ≤ length c' → Chosen job.sheet c'
  search_chosen h long = chosen_from job A cls x.counts (answer x.limit (tree_of job x)) c c'
      (sym tells.number ∙ h) good cells_are long

  pub search_gives : {chosen w : ℕ} {zeroed cells : List ℕ} → Ready job x chosen zeroed w
      → Finished job.sheet c' out.verdict (length zeroed) cells → Gives (outcome job x (length zeroed) w) (Ok out) cells
  search_gives {w = w} {zeroed} {cells} R X =
      rw (outcome_accepted job x (length zeroed) w (ready_accepted R (sym F.list)))
      (finished_gives job A cls x.counts (answer x.limit (tree_of job x)) c c' cells (length zeroed) out
      tells good cells_are X)

-- the caller's list is refused
pub list_gives : {job : Job} {x : Setting} {chosen w : ℕ} {cells : List ℕ} {r : Refusal}
    → Ready job x chosen cells w → r ≡ RefusedFor.List → list_ok job x ≡ false
    → Gives (outcome job x (length cells) w) (Err r) cells
list_gives {job} {x} {w = w} {cells = cells} R e f =
    subst (λ r. Gives (outcome job x (length cells) w) (Err r) cells) (sym e)
    (gives_refused job x (length cells) w RefusedFor.List (ready_refused R f) (lit< tt) R.zero)

-- the room of the search, in words whose number has stayed
pub search_room : {place : Place} {layers len : ℕ} → LaidOut place layers len → place.n ≤ most_freqs
    → (limit len' cells : ℕ)
    → len' ≡ len
    → cells ≡ place.k → Space place 0 0 limit len' cells × Room (three_rows place) (with_masks place layers) len'
search_room {place} {layers} O small limit len' cells e c =
    let a = O.after_masks in
    let b = O.after_layers in
    let d = O.after_graph in
    let f = O.deep in
    let z : place.k - 0 ≡ place.k = omega arith in (
      record {
        room = record {
          masks_after = rw z f;
          graph_after = rw z (omega arith);
          masks_fit = omega arith;
          graph_fit = omega arith;
          wide = O.wide;
          small = O.small;
        };
        deep = omega arith;
        listed = omega arith;
        vertices = omega arith;
        within = omega arith;
      },
      record {
        masks_after = omega arith;
        graph_after = omega arith;
        masks_fit = omega arith;
        graph_fit = omega arith;
        wide = O.wide;
        small = O.small;
      },
    )
