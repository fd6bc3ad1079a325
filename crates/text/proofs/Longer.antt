-- A sheet has at most 62,120 bytes. What follows in a longer one changes nothing: it is refused by its header or its
-- length, so the program may read it in part.
use mathlib.Core.Path.{◌≡◌, refl, sym, ap, ◌∙◌}
use mathlib.Core.Bool.{Bool, true, false, ◌&&◌}
use mathlib.Core.List.{List}
use Prim.Native.Nat.{ℕ, ◌+◌, ◌≤◌, ◌<◌}
use native.Mathlib.Omega.{arith}
use lib.Dec.{ltb, leb}
use lib.ListN.{length, take, get_or}
use lib.Seq.{get_or-take, length-take-le}
use borrow.Author.Tests.{ne_eqb, leb-true, le-leb}
use Rattle.sets.proofs.Tests.{bool, and_l, and_r}
use Rattle.wire.specs.Fields.{le32}
use Rattle.sheet_rows.specs.Form.{form_of, hall_links, hall_words}
use Rattle.sheet_rows.specs.Rows.{header_bytes, link_bytes}
use Rattle.sheet_rows.proofs.Rows.{form_small, rows_small}
use Rattle.rule_sections.specs.Rules.{most_rules, most_pairs}
use Rattle.sheet.specs.Sheet.{k_of, n_of, q_of, t_of, end_at}
use Rattle.sheet.specs.Refusal.{form_ok, link_count_ok, counts_ok, table_ok, offsets_ok, passing, section_cause, refusal}
use Rattle.rules.specs.Job.{job_of}
use Rattle.planner.specs.Outcome.{Outcome, refused}
use Rattle.planner.proofs.Outcomes.{sheet_cause, outcome_refused}
use Rattle.hall_plan.specs.Hall.{is_festival, hall_outcome}
use Rattle.hall_plan.proofs.Hall.{hall_refused, hall_planned}
use Rattle.text.specs.Text.{program_setting, printed_of, printed}
use Rattle.text.proofs.Answers.{printed_any}

-- the refusal of a sheet that is too long, by its header
front : List ℕ → ℕ
front s = passing (form_of s).known 1 λ _. passing (link_count_ok s) 2 λ _. passing (counts_ok s) 3 λ _. 4

front_some : (s : List ℕ) → (0 < front s) × (front s ≤ 4)
unfolding front
front_some s = go (form_of s).known (link_count_ok s) (counts_ok s)
  where
    go : (a b c : Bool) → (0 < passing a 1 (λ _. passing b 2 λ _. passing c 3 λ _. 4))
        × (passing a 1 (λ _. passing b 2 λ _. passing c 3 λ _. 4) ≤ 4)
    go true true true = (omega arith, omega arith)
    go true true false = (omega arith, omega arith)
    go true false c = (omega arith, omega arith)
    go false b c = (omega arith, omega arith)

module _ (s : List ℕ) (long : 62120 < length s) where
  past_end : link_count_ok s ≡ true → counts_ok s ≡ true → offsets_ok s ≡ false
  unfolding link_count_ok counts_ok offsets_ok
  past_end h g =
      let f = form_small (le32 s 0) in
      let r = rows_small (link_bytes s) (k_of s) f.bytes in
      let end = end_at (link_bytes s) (k_of s) (n_of s) (q_of s) (t_of s) in
      let a = ltb 0 (n_of s) && leb (n_of s) (form_of s).freqs in
      let b = a && leb (q_of s) most_rules in
      let k = leb-true (k_of s) (form_of s).links (and_r (ltb 0 (k_of s)) _ h) in
      let t = leb-true (t_of s) most_pairs (and_r b _ g) in
      let e = and_l b (leb (t_of s) most_pairs) g in
      let q = leb-true (q_of s) most_rules (and_r a _ e) in
      let n = leb-true (n_of s) (form_of s).freqs (and_r (ltb 0 (n_of s)) _ (and_l a (leb (q_of s) most_rules) e)) in
      no_and (table_ok s) _ (ne_eqb (length s) end (λ e. absurd (omega arith)))
    where
      no_and : (a b : Bool) → b ≡ false → (a && b) ≡ false
      no_and true b e = e
      no_and false b e = refl

  by_header : refusal s ≡ front s
  unfolding refusal form_ok front
  by_header = rw (le-leb header_bytes (length s) (omega arith)) (go (link_count_ok s) (counts_ok s) refl refl)
    where
      form : (Unit {0} → ℕ) → ℕ
      form after = passing (form_of s).known 1 after

      go : (b c : Bool) → link_count_ok s ≡ b → counts_ok s ≡ c
          → form (λ _. passing b 2 λ _. passing c 3 λ _. passing (offsets_ok s) 4 λ _. section_cause s)
          ≡ form (λ _. passing b 2 λ _. passing c 3 λ _. 4)
      go true true h g = ap (λ d. form (λ _. passing d 4 λ _. section_cause s)) (past_end h g)
      go true false h g = refl
      go false c h g = refl

  front_more : front s ≡ 0 → ⊥
  front_more e = absurd (omega (arith, (front_some s).0))

  too_long : is_festival s ≡ false
      → hall_outcome (job_of s) program_setting hall_links hall_words ≡ refused (front s) hall_links
  too_long hall =
      let at = sheet_cause (job_of s) program_setting hall_links hall_words in
      let e = at (λ q. front_more (sym by_header ∙ q)) ∙ by_header in
      hall_planned (job_of s) program_setting hall_links hall_words hall
      ∙ outcome_refused (job_of s) program_setting hall_links hall_words (λ q. front_more (sym e ∙ q))
      ∙ ap (λ r. refused r hall_links) e

module _ (s : List ℕ) (m : ℕ) (long : 62120 < m) (within : m ≤ length s) where
  same_byte : (i : ℕ) → i ≤ 19 → get_or (take m s) i 0 ≡ get_or s i 0
  same_byte i h = get_or-take m s i 0 (omega arith)

  field : (i : ℕ) → i ≤ 16 → le32 (take m s) i ≡ le32 s i
  field i h =
      let a = same_byte i (omega arith) in
      let b = same_byte (i + 1) (omega arith) in
      let c = same_byte (i + 2) (omega arith) in
      let d = same_byte (i + 3) (omega arith) in
      rw (a, b, c, d) refl

  head_length : length (take m s) ≡ m
  head_length = length-take-le m s within

  same_front : front (take m s) ≡ front s
  unfolding front link_count_ok counts_ok
  same_front =
      let k = field 4 (omega arith) in
      let n = field 8 (omega arith) in
      let q = field 12 (omega arith) in
      let t = field 16 (omega arith) in
      rw (field 0 (omega arith), k, n, q, t) refl

  same_kind : is_festival (take m s) ≡ is_festival s
  unfolding is_festival form_ok link_count_ok
  same_kind =
      let a = le-leb header_bytes (length (take m s)) (omega (arith, head_length)) in
      let b = le-leb header_bytes (length s) (omega arith) in
      rw (a, b, field 0 (omega arith), field 4 (omega arith)) refl

  -- the first m bytes give the text of the whole
  pub same_text : printed (take m s) ≡ printed s
  unfolding printed
  same_text = bool (is_festival s)
      (λ y. alike (λ t. hall_outcome (job_of t) program_setting hall_links hall_words) (refused 3 hall_links)
      (hall_refused (job_of (take m s)) program_setting hall_links hall_words (same_kind ∙ y))
      (hall_refused (job_of s) program_setting hall_links hall_words y) (λ e. absurd (omega arith)))
      (λ n. alike (λ t. hall_outcome (job_of t) program_setting hall_links hall_words) (refused (front s) hall_links)
      (too_long (take m s) (omega (arith, head_length)) (same_kind ∙ n) ∙ ap (λ r. refused r hall_links) same_front)
      (too_long s (omega arith) n) (λ e. few (front_some s).1 e))
    where
      few : front s ≤ 4 → front s ≡ 100 → ⊥
      few h e = absurd (omega arith)

      -- two sheets with the same outcome, which is no plan that was found
      alike : (f : List ℕ → Outcome) (o : Outcome) → f (take m s) ≡ o → f s ≡ o → (o.answer ≡ 100 → ⊥)
          → printed_of (k_of (take m s)) (f (take m s)) ≡ printed_of (k_of s) (f s)
      alike f o a b unplanned =
          ap (λ p. printed_of (k_of (take m s)) p) a ∙ printed_any o (k_of (take m s)) (k_of s) unplanned
          ∙ ap (λ p. printed_of (k_of s) p) (sym b)
