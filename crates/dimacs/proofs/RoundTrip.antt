-- Import gives an accepted sheet with the graph of its texts; and exporting and importing keeps a sheet's graph, and
-- with it every run.
use mathlib.Core.Path.{◌≡◌, refl, sym, ap, subst, ◌∙◌, fun_ext}
use mathlib.Core.Bool.{Bool, true, false, ◌&&◌}
use mathlib.Core.List.{List}
use mathlib.Core.Logic.{◌⊎◌, inl, inr}
use Prim.Native.Nat.{ℕ, ◌*◌, ◌≤◌, ◌<◌}
use native.Mathlib.Omega.{arith}
use lib.Dec.{leb, lit<}
use native.Mathlib.Decide.{dec_lt}
use lib.ListN.{length, get_or-eq_default}
use borrow.Author.Tests.{le-leb, leb-true}
use Rattle.sets.specs.Sets.{Set}
use Rattle.sets.specs.Below.{sum_to}
use Rattle.sets.proofs.Tests.{and_l}
use Rattle.sets.proofs.Below.{sum_in}
use Rattle.sets.proofs.Lists.{length_tabulate, get_d_tabulate}
use Rattle.wire.specs.Fields.{le32}
use Rattle.sheet_rows.specs.Form.{hall_links, hall_freqs, hall_words, form_by, form_of}
use Rattle.sheet_rows.specs.declared.Form.{Form}
use Rattle.sheet_rows.specs.Rows.{link_count}
use Rattle.sheet_rows.proofs.Rows.{one_is, least_words}
use Rattle.rule_sections.specs.Rules.{most_pairs}
use Rattle.sheet.specs.Sheet.{k_of, n_of, links_ok}
use Rattle.sheet.specs.Refusal.{refusal, unless}
use Rattle.sheet.proofs.Accepted.{accepted}
use Rattle.sheet.proofs.Causes.{unless_zero}
use Rattle.sheet.proofs.Links.{link_first_lem, link_sum, link_some}
use Rattle.rules.specs.Job.{job_of}
use Rattle.graph.specs.Graph.{layer, edge}
use Rattle.graph.proofs.Graph.{adjacent_out, links_of}
use Rattle.setting.specs.Setting.{Setting}
use Rattle.work_words.specs.Layout.{work_words}
use Rattle.planner.specs.Outcome.{outcome}
use Rattle.demands.specs.SameGraph.{SameGraph, SameVerdict}
use Rattle.demands.proofs.SameGraph.{graph_decides}
use Rattle.dimacs.specs.Export.{graph_text, counts_text, counts_of, graph_text_of, counts_text_of, ExportOutcome}
use Rattle.dimacs.specs.Export.{exported}
use Rattle.dimacs.specs.Reading.{count_of, first_of, vertices_of, layer_by, Texts, malformed, clashed, texts, texts_of}
use Rattle.dimacs.specs.Made.{pair_total}
use Rattle.dimacs.specs.Import.{text_graph, sheet_bytes, sheet_fits, texts_cause, import_cause, sheet_by, imported_sheet}
use Rattle.dimacs.specs.Import.{ImportOutcome, imported}
use Rattle.dimacs.specs.RoundTrip.{HasGraph, Imports, returned, RoundTrip, DimacsLaws}
use Rattle.dimacs.specs.RoundTrip.{graph_sent, counts_sent, sheet_made}
use Rattle.dimacs.proofs.Calls.{sent, received}
use Rattle.dimacs.proofs.Accepts.{sum_same, Small}
use Rattle.dimacs.proofs.Fields.{sections}
use Rattle.dimacs.proofs.Accepted.{sheet_accepted}
use Rattle.lines.proofs.Decimals.{bound}
use Rattle.dimacs.proofs.Adjacent.{Joins, layer_same, has_graph}
use Rattle.dimacs.proofs.Sound.{Few, AllTexts, IsGraph, texts_graph, joined_joins}
use Rattle.dimacs.proofs.Lines.{so_far, written_graph, beyond_read, texts_read}

-- import

pairs_few : (cs : List ℕ) (E : Set) (room : ℕ) → texts_cause (texts cs E) room ≡ 0
    → pair_total cs (text_graph cs E) ≤ most_pairs
unfolding texts_cause sheet_fits
pairs_few cs E room e =
    leb-true _ _ (and_l (leb (pair_total cs (text_graph cs E)) most_pairs) (leb (sheet_bytes cs E) room)
    (unless_zero (leb (pair_total cs (text_graph cs E)) most_pairs && leb (sheet_bytes cs E) room) 15 (lit< tt) e))

by_accepted : (w : Texts) (room : ℕ) → AllTexts IsGraph w → texts_cause w room ≡ 0 → refusal (sheet_by w) ≡ 0
unfolding texts_cause sheet_by
by_accepted malformed room G e = absurd (omega arith)
by_accepted clashed room G e = absurd (omega arith)
by_accepted (texts cs E) room G e = sheet_accepted cs (text_graph cs E) G.small (pairs_few cs E room e)

by_form : (w : Texts) (room : ℕ) → texts_cause w room ≡ 0 → form_of (sheet_by w) ≡ form_by 1
unfolding texts_cause sheet_by
by_form malformed room e = absurd (omega arith)
by_form clashed room e = absurd (omega arith)
by_form (texts cs E) room e = (sections cs (text_graph cs E)).form

by_graph : (w : Texts) → AllTexts IsGraph w → AllTexts (λ cs E. HasGraph (sheet_by w) cs (text_graph cs E)) w
unfolding sheet_by
by_graph malformed G = tt
by_graph clashed G = tt
by_graph (texts cs E) G = has_graph cs (text_graph cs E) G.small (joined_joins cs E G.apart)

pub imports : (text counts : List ℕ) (room : ℕ) → import_cause text counts room ≡ 0 → Imports text counts
unfolding import_cause imported_sheet
imports text counts room e = record {
  form = by_form (texts_of text counts) room e;
  accepted = by_accepted (texts_of text counts) room (texts_graph text counts) e;
  graph = λ cs E q. subst (AllTexts (λ cs E. HasGraph (sheet_by (texts_of text counts)) cs (text_graph cs E))) q
      (by_graph (texts_of text counts) (texts_graph text counts));
}

-- the counts and the adjacency of an accepted sheet

module _ (s : List ℕ) (ok : refusal s ≡ 0) where
  links : links_ok s (k_of s) (n_of s) ≡ true
  links = (accepted s ok).links

  cs_length : length (counts_of s) ≡ k_of s
  unfolding counts_of
  cs_length = length_tabulate (k_of s) (link_count s)

  cs_count : (l : ℕ) → l < k_of s → count_of (counts_of s) l ≡ link_count s l
  unfolding counts_of
  cs_count l h = get_d_tabulate (k_of s) (link_count s) l 0 h

  cs_first : (m : ℕ) → m ≤ k_of s → first_of (counts_of s) m ≡ sum_to m (link_count s)
  unfolding first_of
  cs_first m h = sum_same m (count_of (counts_of s)) (link_count s) (λ i l. cs_count i (omega arith))

  cs_vertices : vertices_of (counts_of s) ≡ n_of s
  cs_vertices = ap (first_of (counts_of s)) cs_length ∙ cs_first (k_of s) (omega arith)
      ∙ link_sum s (k_of s) (n_of s) links

  cs_layers : layer (job_of s) ≡ layer_by (counts_of s) (length (counts_of s))
  cs_layers = fun_ext (λ v. layer_same s (counts_of s) (k_of s)
      (λ l h. link_first_lem s (k_of s) (n_of s) links l h ∙ sym (cs_first l (omega arith))) v
      ∙ ap (λ k. layer_by (counts_of s) k v) (sym cs_length))

  cs_some : (l : ℕ) → l < length (counts_of s) → 0 < count_of (counts_of s) l
  cs_some l b =
      let c : l < k_of s = omega (arith, cs_length) in
      rw (cs_count l c) (link_some s (k_of s) (n_of s) links l c)

  cs_joins : Joins (counts_of s) (edge (job_of s))
  cs_joins = let L = links_of (job_of s) (accepted s ok) (layer (job_of s)) in record {
    sy = L.sy;
    left = λ u v t. rw cs_vertices (adjacent_out _ _ _ _ _ _ _ u v t).left;
    right = λ u v t. rw cs_vertices (adjacent_out _ _ _ _ _ _ _ u v t).right;
    apart = λ u v t q. L.apart u v t (ap (λ f. f u) cs_layers ∙ q ∙ sym (ap (λ f. f v) cs_layers));
  }

  -- a count is a field of 16 bits of the sheet, or 0 past the last link
  cs_bound : (l : ℕ) → count_of (counts_of s) l < bound 20
  cs_bound l = go (dec_lt l (k_of s))
    where
      go : Dec (l < k_of s) → count_of (counts_of s) l < bound 20
      go (yes h) =
          let n = (accepted s ok).head.n_small in
          let v = link_sum s (k_of s) (n_of s) links in
          omega (arith, cs_count l h, sum_in (k_of s) l (link_count s) h)
      go (no h) =
          let e : count_of (counts_of s) l ≡ 0 = get_or-eq_default (counts_of s) 0 (omega (arith, cs_length)) in
          omega arith

  -- a sheet beyond the sizes of form 1
  past_read : (hall_links < k_of s) ⊎ (hall_freqs < n_of s) → texts_of (graph_text_of s) (counts_text_of s) ≡ malformed
  past_read h = beyond_read (graph_text_of s) (counts_of s) cs_bound (many h)
    where
      many : (hall_links < k_of s) ⊎ (hall_freqs < n_of s) → Few (counts_of s) → ⊥
      many (inl l) F = omega (arith, F.links, cs_length)
      many (inr l) F = omega (arith, F.freqs, cs_vertices)

  -- a sheet within them
  module _ (k_few : k_of s ≤ hall_links) (n_few : n_of s ≤ hall_freqs) where
    cs_small : Small (counts_of s)
    cs_small = let l = cs_length in let v = cs_vertices in record {
      links_some = omega (arith, (accepted s ok).head.k_some);
      links_few = omega arith;
      freqs_few = omega arith;
      some = cs_some;
    }

    back_texts : texts_of (graph_text_of s) (counts_text_of s) ≡ texts (counts_of s)
        (so_far (counts_of s) (edge (job_of s)) cs_joins (vertices_of (counts_of s) * vertices_of (counts_of s)))
    back_texts = ap (λ n. texts_of (graph_text n (edge (job_of s))) (counts_text (counts_of s))) (sym cs_vertices)
        ∙ texts_read (counts_of s) (edge (job_of s)) cs_joins cs_small

    back_graph : (room : ℕ) → import_cause (graph_text_of s) (counts_text_of s) room ≡ 0
        → HasGraph (imported_sheet (graph_text_of s) (counts_text_of s)) (counts_of s) (edge (job_of s))
    back_graph room e = subst (HasGraph (imported_sheet (graph_text_of s) (counts_text_of s)) (counts_of s))
        (written_graph (counts_of s) (edge (job_of s)) cs_joins)
        ((imports (graph_text_of s) (counts_text_of s) room e).graph (counts_of s) _ back_texts)

  past_cause : (room : ℕ) → (hall_links < k_of s) ⊎ (hall_freqs < n_of s)
      → import_cause (graph_text_of s) (counts_text_of s) room ≡ 13
  unfolding import_cause texts_cause
  past_cause room h = ap (λ w. texts_cause w room) (past_read h)

  -- so an import that succeeds is of a sheet within them
  within : (room : ℕ) → import_cause (graph_text_of s) (counts_text_of s) room ≡ 0
      → (k_of s ≤ hall_links) × (n_of s ≤ hall_freqs)
  within room e = (
    by_contradiction (k_of s) hall_links (λ h. past_cause room (inl h)),
    by_contradiction (n_of s) hall_freqs (λ h. past_cause room (inr h)),
  )
    where
      by_contradiction : (a b : ℕ) → (b < a → import_cause (graph_text_of s) (counts_text_of s) room ≡ 13) → a ≤ b
      by_contradiction a b f = go (dec_lt b a)
        where
          go : Dec (b < a) → a ≤ b
          go (yes h) = absurd (omega (arith, f h))
          go (no h) = omega arith

  pub trip : (room : ℕ) → import_cause (graph_text_of s) (counts_text_of s) room ≡ 0 → RoundTrip s
  trip room e =
      let F = within room e in
      let H = back_graph F.0 F.1 room e in
      let I = imports (graph_text_of s) (counts_text_of s) room e in
      let G : SameGraph (job_of (returned s)) (job_of s) = record {
        vertices = H.vertices ∙ cs_vertices;
        links = H.links ∙ cs_length;
        layers = H.layers ∙ sym cs_layers;
        strikes = refl;
        edges = H.edges;
      } in
      let hall : work_words (returned s) ≡ hall_words = ap (λ (f : Form). f.words) (I.form ∙ one_is) in
      record {
        same = G;
        runs = λ x m w h. graph_decides.runs _ _ G (I.accepted ∙ sym ok) refl w w
            (le-leb (work_words (returned s)) w (omega (arith, least_words (le32 s 0)))
            ∙ sym (le-leb (work_words s) w h)) x m;
      }

-- texts that were read are refused for 15 alone
fifteen : (w : Texts) (cs : List ℕ) (E : Set) (room : ℕ) → w ≡ texts cs E → (texts_cause w room ≡ 0 → ⊥)
    → texts_cause w room ≡ 15
unfolding texts_cause unless
fifteen w cs E room q ne = e ∙ go (sheet_fits cs E room) (λ z. ne (e ∙ z))
  where
    e : texts_cause w room ≡ unless (sheet_fits cs E room) 15
    e = ap (λ x. texts_cause x room) q

    go : (b : Bool) → (unless b 15 ≡ 0 → ⊥) → unless b 15 ≡ 15
    go true h = absurd (h refl)
    go false h = refl

-- an export that succeeds, and an import of what it wrote
of_calls : (s : List ℕ) (g c : ℕ) (o : ExportOutcome) → o ≡ exported s g c → o.answer ≡ 0
    → (room : ℕ) (i : ImportOutcome) → i ≡ imported (graph_sent o) (counts_sent o) room → i.answer ≡ 0
    → (x : Setting) (m w : ℕ) → work_words s ≤ w
    → SameVerdict (outcome (job_of (sheet_made i)) x m w) (outcome (job_of s) x m w)
of_calls s g c o p e room i q f x m w h =
    let S = sent s g c (ap (λ z. z.answer) (sym p) ∙ e) in
    let a = ap graph_sent p ∙ S.graph in
    let b = ap counts_sent p ∙ S.counts in
    let j : i ≡ imported (graph_text_of s) (counts_text_of s) room =
    q ∙ ap (λ t. imported t (counts_sent o) room) a ∙ ap (λ t. imported (graph_text_of s) t room) b in
    let R = received (graph_text_of s) (counts_text_of s) room (ap (λ z. z.answer) (sym j) ∙ f) in
    subst (λ t. SameVerdict (outcome (job_of t) x m w) (outcome (job_of s) x m w)) (sym (ap sheet_made j ∙ R.sheet))
    ((trip s S.accepted room R.fine).runs x m w h)

pub dimacs_laws : DimacsLaws
unfolding import_cause
dimacs_laws = record {
  imports = imports;
  trips = λ s room ok e. trip s ok room e;
  beyond = λ s room ok h. past_cause s ok room h;
  refuses = λ s room ok a b ne. fifteen (texts_of (graph_text_of s) (counts_text_of s)) _ _ room (back_texts s ok a b) ne;
  calls = of_calls;
}
