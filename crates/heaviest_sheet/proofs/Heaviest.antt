-- The sheet that is written is the heaviest job of its k and m.
use mathlib.Core.Path.{◌≡◌, refl, sym, ap, ap₂, subst, ◌∙◌}
use mathlib.Core.Bool.{Bool, true, false, cond}
use mathlib.Core.List.{List}
use Prim.Native.Nat.{ℕ, zero, suc, ◌+◌, ◌-◌, ◌*◌, ◌/◌, ◌≤◌, ◌<◌}
use native.Mathlib.Omega.{arith}
use lib.Dec.{eqb, leb}
use lib.ListN.{length}
use lib.Seq.{take_all, take_at}
use borrow.Author.Tests.{eqb-true}
use Rattle.sets.specs.Below.{count}
use Rattle.sets.proofs.Tests.{bool, and_l}
use Rattle.sets.proofs.Below.{count_within}
use Rattle.sets.proofs.Lists.{length_tabulate, get_d_tabulate}
use Rattle.wire.specs.Fields.{le32}
use Rattle.sheet_rows.specs.Rows.{link_first}
use Rattle.sheet.specs.Sheet.{k_of, n_of}
use Rattle.sheet.proofs.Accepted.{accepted}
use Rattle.pair_test.specs.Layers.{InLink}
use Rattle.pair_test.proofs.Laws.{layer_in}
use Rattle.rules.specs.Job.{job_of, unstruck}
use Rattle.cliques.specs.Graph.{layered}
use Rattle.graph.specs.Graph.{link_of, layer, edge}
use Rattle.partition.specs.Partition.{class_of, layers_of, classes}
use Rattle.partition.specs.Choice.{class_list}
use Rattle.search.specs.Tree.{found, nodes}
use Rattle.search.specs.Setting.{tree}
use Rattle.search.specs.Limit.{plan, stopped, answer, answer_number, reported}
use Rattle.setting.specs.Setting.{Setting}
use Rattle.work_words.specs.Classes.{classes_of, graph_in}
use Rattle.planner.specs.Outcome.{call_refusal, tree_of, outcome_of, outcome}
use Rattle.planner.proofs.Outcomes.{outcome_accepted}
use Rattle.demands.proofs.NoList.{nothing_struck}
use Rattle.output.specs.Output.{padded}
use Rattle.dimacs.proofs.Choices.{yes_is, no_is}
use Rattle.dimacs.proofs.Accepted.{sheet_accepted}
use Rattle.dimacs.proofs.Fields.{sections}
use Rattle.tree_size.specs.Size.{heaviest_nodes}
use Rattle.tree_size.proofs.TreeSizes.{tree_sizes, full_size}
use Rattle.heaviest_sheet.specs.Written.{links, graph, sheet}
use Rattle.heaviest_sheet.specs.Call.{sizes_ok, SizesFit, in_range, HeaviestOutcome, heaviest_of}
use Rattle.heaviest_sheet.specs.Heaviest.{OfLinks, Plain, Heaviest, sheet_written, HeaviestJob}
use Rattle.heaviest_sheet.proofs.Sizes.{sizes}
use Rattle.heaviest_sheet.proofs.Links.{links_length, links_count, links_vertices, links_small, links_layer}
use Rattle.heaviest_sheet.proofs.Links.{sheet_graph}
use Rattle.heaviest_sheet.proofs.FewPairs.{few_pairs}
use Rattle.heaviest_sheet.proofs.Full.{full}

-- "Choice 0: the layers"
class_link : (s : List ℕ) (x : Setting) (v : ℕ) → x.choice ≡ 0 → v < n_of s
    → class_of (classes_of (job_of s) x) v ≡ link_of (job_of s) v
unfolding classes_of classes class_list layers_of
class_link s x v e h =
    let n = n_of s in
    let f = link_of (job_of s) in
    rw e (ap (λ l. class_of l v) (take_all n _ (omega (arith, length_tabulate n f))) ∙ get_d_tabulate n f v 0 h)

-- no tree of k links with m frequencies each is larger
module _ (k m : ℕ) (s : List ℕ) (J : OfLinks k m s) (x : Setting) (e : x.choice ≡ 0)
    (until : x.counts ≡ false) where
  few : (c : ℕ) → count (n_of s) (λ v. eqb (class_of (classes_of (job_of s) x) v) c) ≤ m
  few c = (count_within (n_of s) (link_first s c) m (λ v. eqb (class_of (classes_of (job_of s) x) v) c) (λ v h t.
      let i = layer_in s (k_of s) (n_of s) (accepted s J.accepted).links v h in
      let q = sym (class_link s x v e h) ∙ eqb-true (class_of (classes_of (job_of s) x) v) c t in
      let b : c < k_of s = rw q at i.0 in
      let w : InLink s c v = rw q at i.1 in
      let f = J.freqs c (omega (arith, J.links)) in
      (w.low, omega (arith, w.high)))).0

  job_most : nodes (tree_of (job_of s) x) ≤ heaviest_nodes k m
  unfolding tree_of
  job_most =
      rw (← J.links)
      (subst (λ on. nodes (tree on x.filter (graph_in (job_of s) x) (layer (job_of s)) (unstruck (job_of s)))
      ≤ heaviest_nodes (k_of s) m) (sym until)
      (tree_sizes.most (graph_in (job_of s) x) m few x.filter (layer (job_of s)) (unstruck (job_of s))))

-- the sheet, of suc z links
module _ (z m : ℕ) (Z : SizesFit (suc z) m) where
  abbrev k : ℕ
  k = suc z

  abbrev s : List ℕ
  s = sheet k m

  job : OfLinks k m s
  unfolding sheet
  job =
      let S = sections (links k m) (graph k m) in
      record {
        accepted = sheet_accepted (links k m) (graph k m) (links_small k m Z) (few_pairs k m Z);
        links = S.k ∙ links_length k m;
        freqs = λ l h. S.links.count l (omega (arith, links_length k m)) ∙ links_count k m l h;
      }

  form : le32 s 0 ≡ 1
  unfolding sheet
  form = (sections (links k m) (graph k m)).offsets.form

  vertices : n_of s ≡ k * m
  vertices = (sheet_graph k m Z).vertices ∙ links_vertices k m

  link_is : (v : ℕ) → v < n_of s → link_of (job_of s) v ≡ v / m
  link_is v h = ap (λ f. f v) (sheet_graph k m Z).layers ∙ links_layer k m Z v (omega (arith, vertices))

  edge_is : (u v : ℕ) → edge (job_of s) u v ≡ graph k m u v
  edge_is u v = ap (λ f. f u v) (sheet_graph k m Z).edges

  module _ (x : Setting) (P : Plain x) where
    tree_is : (plan : ℕ → ℕ) × (tree_of (job_of s) x ≡ found plan (heaviest_nodes k m))
    unfolding tree_of
    tree_is =
        let G = graph_in (job_of s) x in
        let lay = layer (job_of s) in
        let A = full z m Z G job.links vertices (λ v h. class_link s x v P.choice h ∙ link_is v h) edge_is in
        let B = full z m Z (layered G lay) job.links vertices link_is edge_is in
        let T = full_size G m z (z * m + m - 1) lay A B in (
          T.0,
          ap₂ (λ on f. tree on f G lay (unstruck (job_of s))) P.first P.filter
              ∙ ap (tree false 0 G lay) (nothing_struck.without s).live
              ∙ T.1 ∙ ap (λ j. found T.0 (heaviest_nodes j m)) job.links,
        )

    -- a call that is accepted
    module _ (c w : ℕ) (ok : call_refusal (job_of s) x c w ≡ 0) where
      abbrev big : ℕ
      big = heaviest_nodes k m

      run : outcome (job_of s) x c w ≡ outcome_of (job_of s) c (answer x.limit (found tree_is.0 big))
      run = outcome_accepted (job_of s) x c w ok ∙ ap (λ t. outcome_of (job_of s) c (answer x.limit t)) tree_is.1

      answered : (outcome (job_of s) x c w).answer ≡ cond (leb big x.limit) 100 102
      answered = ap (λ o. o.answer) run ∙ go (leb big x.limit)
        where
          go : (b : Bool) → answer_number (elim b [ true ↦ plan tree_is.0 big | false ↦ stopped x.limit ])
              ≡ cond b 100 102
          go true = refl
          go false = refl

      entered : (outcome (job_of s) x c w).nodes ≡ cond (leb big x.limit) big x.limit
      entered = ap (λ o. o.nodes) run ∙ go (leb big x.limit)
        where
          go : (b : Bool) → reported (elim b [ true ↦ plan tree_is.0 big | false ↦ stopped x.limit ])
              ≡ cond b big x.limit
          go true = refl
          go false = refl

pub heaviest_sheet : (k m : ℕ) → SizesFit k m → Heaviest k m (sheet k m)
heaviest_sheet zero m Z = absurd (omega (arith, Z.k_some))
heaviest_sheet (suc z) m Z = record {
  form = form z m Z;
  job = job z m Z;
  size = λ x P. ap nodes (tree_is z m Z x P).1;
  most = job_most (suc z) m;
  answer = λ x c w P. answered z m Z x P c w;
  entered = λ x c w P. entered z m Z x P c w;
}

-- what the call wrote, where it does not refuse
pub heaviest_job : HeaviestJob
unfolding heaviest_of in_range padded
heaviest_job k m room o e ok = bool (in_range k m room) yes no
  where
    yes : in_range k m room ≡ true → Heaviest k m (sheet_written o)
    yes t =
        let Z = sizes k m (and_l (sizes_ok k m) (leb 65536 room) t) in
        let is = ap sheet_written (e ∙ yes_is (in_range k m room) _ _ t) in
        subst (Heaviest k m) (sym (is ∙ take_at (sheet k m) _ (length (sheet k m)) refl)) (heaviest_sheet k m Z)

    no : in_range k m room ≡ false → Heaviest k m (sheet_written o)
    no t = let q = ap (λ (i : HeaviestOutcome). i.answer) (e ∙ no_is (in_range k m room) _ _ t) in absurd (omega arith)
