-- A sheet of form 2 with form 3 in its header: the fields and the rows are the same, so is the graph, and with it every
-- accepted run.
use mathlib.Core.Path.{◌≡◌, refl, sym, ap, ap₂, ◌∙◌, fun_ext}
use mathlib.Core.Bool.{Bool, true, not, cond, ◌&&◌}
use mathlib.Core.List.{List, [], ◌∷◌}
use Prim.Native.Nat.{ℕ, zero, suc, ◌≤◌, ◌<◌}
use native.Mathlib.Omega.{arith}
use lib.Dec.{ltb, leb, lit<}
use lib.ListN.{length, get_or, drop}
use borrow.Author.Tests.{lt-ltb, le-leb}
use Rattle.sets.specs.Below.{all, tabulate}
use Rattle.sets.proofs.Tests.{and_in}
use Rattle.wire.specs.Fields.{le32}
use Rattle.sheet_rows.specs.Form.{form_by, form_of, most_words}
use Rattle.sheet_rows.specs.Rows.{header_bytes, link_bytes, link_part, row_first, row_count, row_width, freq}
use Rattle.sheet_rows.specs.Rows.{link_first, link_count, link_width}
use Rattle.sheet_rows.specs.declared.Form.{Form}
use Rattle.sheet_rows.proofs.Rows.{two_is, three_is}
use Rattle.rule_sections.specs.Rules.{most_rules, most_pairs, rules_ok, pairs_ok}
use Rattle.sheet.specs.Sheet.{k_of, n_of, q_of, t_of, freqs_at, rules_at, pairs_at, freq_part, rule_part, pair_part}
use Rattle.sheet.specs.Sheet.{links_ok, widths_ok, freqs_ok}
use Rattle.sheet.specs.Refusal.{form_ok, link_count_ok, counts_ok, table_ok, offsets_ok, refusal}
use Rattle.sheet.proofs.Causes.{passed}
use Rattle.sheet.proofs.Accepted.{accepted, no_cause}
use Rattle.channels.specs.Channels.{on_air}
use Rattle.rules.specs.Job.{Job, struck}
use Rattle.rules.specs.Plans.{cells_of, keeps_sheet, keeps_job, clear, checked}
use Rattle.graph.specs.Graph.{link_of, sheet_edge}
use Rattle.cliques.specs.Listing.{by_layer}
use Rattle.cells.specs.Cells.{cell_of, plan_cells}
use Rattle.search.specs.Limit.{Answer, plan, none, stopped, answer}
use Rattle.setting.specs.Setting.{Setting}
use Rattle.work_words.specs.Layout.{work_words}
use Rattle.planner.specs.Outcome.{call_refusal, tree_of, outcome_of, outcome}
use Rattle.planner.proofs.Accepted.{call_accepted}
use Rattle.planner.proofs.Outcomes.{gave_outcome, outcome_accepted}
use Rattle.demands.specs.SameGraph.{SameGraph}
use Rattle.demands.specs.FormThree.{in_form_three, festival, FormThreeRuns}
use Rattle.demands.proofs.SameGraph.{same_tree, same_refusal}
use Rattle.demands.proofs.SameRows.{SameRows, layer_same, adjacent_same, keeps_same, freqs_same, pairs_same}

-- lists that differ in their first byte alone
drop_other : (m a b : ℕ) (l : List ℕ) → 0 < m → drop m (a ∷ l) ≡ drop m (b ∷ l)
drop_other zero a b l h = absurd (omega arith)
drop_other (suc m) a b l h = refl

byte_other : (i a b : ℕ) (l : List ℕ) → 0 < i → get_or (b ∷ l) i 0 ≡ get_or (a ∷ l) i 0
byte_other zero a b l h = absurd (omega arith)
byte_other (suc i) a b l h = refl

-- a sheet of form 2, by its first byte
module _ (a : ℕ) (l : List ℕ) (two : le32 (a ∷ l) 0 ≡ 2) where
  abbrev s : List ℕ
  s = a ∷ l

  abbrev s' : List ℕ
  s' = 3 ∷ l

  three : le32 s' 0 ≡ 3
  three = omega arith

  form_2 : form_of s ≡ record { known = true; bytes = 8; links = 64; freqs = 512; words = 8192 }
  form_2 = ap form_by two ∙ two_is

  form_3 : form_of s' ≡ record { known = true; bytes = 8; links = 128; freqs = 1024; words = 32768 }
  form_3 = ap form_by three ∙ three_is

  bytes_2 : link_bytes s ≡ 8
  bytes_2 = ap (λ (f : Form). f.bytes) form_2

  bytes_3 : link_bytes s' ≡ 8
  bytes_3 = ap (λ (f : Form). f.bytes) form_3

  same_bytes : link_bytes s ≡ link_bytes s'
  same_bytes = bytes_2 ∙ sym bytes_3

  same_rows : SameRows s s'
  unfolding link_first link_count link_width
  same_rows = record {
    firsts = ap (λ b. λ l'. row_first b (link_part s) l') same_bytes;
    counts = ap (λ b. λ l'. row_count b (link_part s) l') same_bytes;
    widths = ap (λ b. λ l'. row_width b (link_part s) l') same_bytes;
  }

  pub same_freqs : freq_part s ≡ freq_part s'
  same_freqs = ap (λ b. drop (freqs_at b (k_of s)) s) same_bytes ∙ drop_other (freqs_at (link_bytes s') (k_of s)) a 3 l
      (omega arith)

  same_rules : rule_part s ≡ rule_part s'
  same_rules = ap (λ b. drop (rules_at b (k_of s) (n_of s)) s) same_bytes
      ∙ drop_other (rules_at (link_bytes s') (k_of s) (n_of s)) a 3 l (omega arith)

  same_pairs : pair_part s ≡ pair_part s'
  same_pairs = ap (λ b. drop (pairs_at b (k_of s) (n_of s) (q_of s)) s) same_bytes
      ∙ drop_other (pairs_at (link_bytes s') (k_of s) (n_of s) (q_of s)) a 3 l (omega arith)

  -- the reader accepts it too
  same_offsets : offsets_ok s ≡ offsets_ok s'
  unfolding offsets_ok table_ok
  same_offsets = rw (bytes_2, bytes_3) refl

  same_links : links_ok s (k_of s) (n_of s) ≡ links_ok s' (k_of s) (n_of s)
  unfolding links_ok
  same_links = rw (bytes_2, bytes_3) refl

  same_widths : widths_ok s (k_of s) ≡ widths_ok s' (k_of s)
  unfolding widths_ok
  same_widths = rw (bytes_2, bytes_3) refl

  offsets_ok_lem : refusal s ≡ 0 → offsets_ok s ≡ true
  unfolding refusal
  offsets_ok_lem e =
      let f = passed (form_ok s) 1 _ (lit< tt) e in
      let k = passed (link_count_ok s) 2 _ (lit< tt) f.1 in
      let n = passed (counts_ok s) 3 _ (lit< tt) k.1 in
      (passed (offsets_ok s) 4 _ (lit< tt) n.1).0

  pub accepted_too : refusal s ≡ 0 → refusal s' ≡ 0
  unfolding form_ok link_count_ok counts_ok
  accepted_too e =
      let A = accepted s e in
      let h = A.head in
      no_cause s'
      (and_in (le-leb header_bytes (length s') h.long) (ap (λ (f : Form). f.known) form_3))
      (rw form_3 (and_in (lt-ltb 0 (k_of s) h.k_some) (le-leb (k_of s) 128 h.k_small)))
      (rw form_3 (and_in (and_in (and_in (lt-ltb 0 (n_of s) h.n_some) (le-leb (n_of s) 1024 h.n_small))
      (le-leb (q_of s) most_rules h.q_small)) (le-leb (t_of s) most_pairs h.t_small)))
      (sym same_offsets ∙ offsets_ok_lem e)
      (sym same_links ∙ A.links)
      (sym same_widths ∙ A.widths)
      (ap (λ p. freqs_ok s' p (k_of s)) (sym same_freqs) ∙ sym (freqs_same same_rows (freq_part s) (k_of s)) ∙ A.freqs)
      (ap (λ p. rules_ok p (k_of s) (q_of s) (t_of s)) (sym same_rules) ∙ A.rules)
      (ap₂ (λ r p. pairs_ok s' r p (q_of s)) (sym same_rules) (sym same_pairs)
      ∙ sym (pairs_same same_rows (rule_part s) (pair_part s) (q_of s)) ∙ A.pairs)

  -- adjacency, and what keeps every rule
  same_edge : (u v : ℕ) → sheet_edge s u v ≡ sheet_edge s' u v
  same_edge u v = rw (same_freqs, same_rules, same_pairs)
      (adjacent_same same_rows (freq_part s') (rule_part s') (pair_part s') (k_of s) (n_of s) (q_of s) u v)

  pub same_keeps : (f : ℕ → ℕ) → keeps_sheet s f ≡ keeps_sheet s' f
  unfolding keeps_sheet
  same_keeps f = rw (same_freqs, same_rules, same_pairs)
      (keeps_same same_rows (freq_part s') (rule_part s') (pair_part s') (k_of s) (q_of s) f)

-- jobs with the same graph and the same frequencies have the same outcome of every answer
module _ (job job' : Job) (S : SameGraph job job') (F : freq_part job.sheet ≡ freq_part job'.sheet) where
  cells_by : ℕ → (ℕ → ℕ) → List ℕ → (ℕ → ℕ) → ℕ → List ℕ
  cells_by k lay fs p m = tabulate m (λ l. cond (ltb l k) (freq fs (by_layer k lay p l)) 0)

  same_cells : (p : ℕ → ℕ) (m : ℕ) → plan_cells job p m ≡ plan_cells job' p m
  unfolding plan_cells cell_of cells_by
  same_cells p m =
      ap (λ k. cells_by k (link_of job) (freq_part job.sheet) p m) S.links
      ∙ ap (λ lay. cells_by (k_of job'.sheet) lay (freq_part job.sheet) p m) S.layers
      ∙ ap (λ fs. cells_by (k_of job'.sheet) (link_of job') fs p m) F

  pub same_outcome_of : (m : ℕ) (a : Answer) → outcome_of job m a ≡ outcome_of job' m a
  same_outcome_of m (plan p t) = ap (λ c. record { answer = 100; nodes = t; cells = c }) (same_cells p m)
  same_outcome_of m (none t) = refl
  same_outcome_of m (stopped t) = refl

-- the job of a sheet of form 2, and the same with form 3 in the header
module _ (a : ℕ) (l channels : List ℕ) (two : le32 (a ∷ l) 0 ≡ 2) where
  abbrev job : Job
  job = record { sheet = a ∷ l; channels = channels }

  abbrev job' : Job
  job' = record { sheet = 3 ∷ l; channels = channels }

  same_strikes : struck job ≡ struck job'
  same_strikes = ap (λ fs. λ v. on_air channels (freq fs v)) (same_freqs a l two)

  pub same_graph : SameGraph job job'
  same_graph = record {
    vertices = refl;
    links = refl;
    layers = fun_ext (λ v. layer_same (same_rows a l two) (k_of (a ∷ l)) v);
    strikes = same_strikes;
    edges = fun_ext (λ u. fun_ext (λ v. ap₂ (λ (out : ℕ → Bool) (b : Bool). (not (out u) && not (out v)) && b)
        same_strikes (same_edge a l two u v)));
  }

  module _ (x : Setting) (m w w' : ℕ) (ok : call_refusal job x m w ≡ 0) (enough : most_words ≤ w') where
    words_both : leb (work_words (a ∷ l)) w ≡ leb (work_words (3 ∷ l)) w'
    words_both =
        let e = ap (λ (f : Form). f.words) (form_3 a l two) in
        le-leb (work_words (a ∷ l)) w (call_accepted job x m w ok).work
        ∙ sym (le-leb (work_words (3 ∷ l)) w' (omega arith))

    pub same_cause : call_refusal job' x m w' ≡ 0
    same_cause =
        let r = (call_accepted job x m w ok).sheet in
        sym (same_refusal job job' same_graph x (r ∙ sym (accepted_too a l two r)) refl w w' words_both m) ∙ ok

    pub same_run : outcome job' x m w' ≡ outcome job x m w
    same_run =
        outcome_accepted job' x m w' same_cause
        ∙ sym (same_outcome_of job job' same_graph (same_freqs a l two) m (answer x.limit (tree_of job' x)))
        ∙ ap (λ t. outcome_of job m (answer x.limit t)) (sym (same_tree job job' same_graph x))
        ∙ sym (outcome_accepted job x m w ok)

  pub same_judged : (f : ℕ → ℕ) → keeps_job job f ≡ keeps_job job' f
  unfolding keeps_job
  same_judged f = ap (λ b. all (k_of (a ∷ l)) (clear channels f) && b) (same_keeps a l two f)

  same_check : refusal (a ∷ l) ≡ 0 → (cells : List ℕ) → checked job' cells ≡ checked job cells
  unfolding checked
  same_check ok cells = rw (accepted_too a l two ok, ok, same_judged (cells_of cells)) refl

-- a sheet of form 2 has a first byte
none_empty_lem : (A : Type 0) → le32 [] 0 ≡ 2 → A
none_empty_lem A e = absurd (omega arith)

form_3_runs : (s channels : List ℕ) → le32 s 0 ≡ 2 → (x : Setting) (m w : ℕ)
    → call_refusal (record { sheet = s; channels = channels }) x m w ≡ 0 → (w' : ℕ) → most_words ≤ w'
    → outcome (festival (record { sheet = s; channels = channels })) x m w'
    ≡ outcome (record { sheet = s; channels = channels }) x m w
form_3_runs [] channels e x m w ok w' h = none_empty_lem _ e
form_3_runs (a ∷ l) channels e x m w ok w' h = same_run a l channels e x m w w' ok h

form_3_checks : (s channels : List ℕ) → le32 s 0 ≡ 2 → refusal s ≡ 0 → (cells : List ℕ)
    → checked (festival (record { sheet = s; channels = channels })) cells
    ≡ checked (record { sheet = s; channels = channels }) cells
form_3_checks [] channels e ok cells = none_empty_lem _ e
form_3_checks (a ∷ l) channels e ok cells = same_check a l channels e ok cells

form_3_long : (s : List ℕ) → le32 s 0 ≡ 2 → length (in_form_three s) ≡ length s
form_3_long [] e = none_empty_lem _ e
form_3_long (a ∷ l) e = refl

form_3_bytes : (s : List ℕ) → le32 s 0 ≡ 2 → (i : ℕ) → 0 < i → get_or (in_form_three s) i 0 ≡ get_or s i 0
form_3_bytes [] e i h = none_empty_lem _ e
form_3_bytes (a ∷ l) e i h = byte_other i a 3 l h

form_3_is : (s : List ℕ) → le32 s 0 ≡ 2 → le32 (in_form_three s) 0 ≡ 3
form_3_is [] e = none_empty_lem _ e
form_3_is (a ∷ l) e = three a l e

pub form_three_runs : FormThreeRuns
form_three_runs = record {
  form = λ job e. form_3_is job.sheet e;
  long = λ job e. form_3_long job.sheet e;
  bytes = λ job e. form_3_bytes job.sheet e;
  runs = λ job e. form_3_runs job.sheet job.channels e;
  calls = λ job e x c ok c' p h.
      sym (gave_outcome c'.meets.gives)
      ∙ ap (λ m. outcome (festival job) x m c'.w) p
      ∙ form_3_runs job.sheet job.channels e x c.m c.w ok c'.w h
      ∙ gave_outcome c.meets.gives;
  checks = λ job e ok. form_3_checks job.sheet job.channels e ok;
}
