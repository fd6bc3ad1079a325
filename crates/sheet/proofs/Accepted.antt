-- A sheet that no cause refuses is accepted: what each test of the chain of causes says. No cause has a number above
-- 16.
use Rattle.std.proofs.Common.{ℕ, ◌≤◌, ◌≡◌, List, true, ◌&&◌, arith, length, eqb, ltb, leb, lit<, eqb-true, ltb-true, leb-true}
use Rattle.sets.proofs.Tests.{and_out}
use Rattle.wire.specs.Fields.{le32}
use Rattle.sheet_rows.specs.Form.{form_of}
use Rattle.sheet_rows.specs.Rows.{header_bytes, link_bytes}
use Rattle.sheet_rows.proofs.Rows.{form_small}
use Rattle.rule_sections.specs.Rules.{most_rules, most_pairs, rules_ok, pairs_ok}
use Rattle.sheet.specs.Sheet.{k_of, n_of, q_of, t_of, end_at}
use Rattle.sheet.specs.Sheet.{freq_part, rule_part, pair_part, links_ok, widths_ok, freqs_ok}
use Rattle.sheet.specs.Refusal.{form_ok, link_count_ok, counts_ok, table_ok, offsets_ok, unless, section_cause, refusal}
use Rattle.sheet.specs.Accepted.{Head, Accepted}
use Rattle.sheet.proofs.Causes.{unless_zero, passed, passing_most, unless_most}

pub form_long : (s : List ℕ) → form_ok s ≡ true → header_bytes ≤ length s
unfolding form_ok
form_long s h = leb-true header_bytes (length s) (and_out (leb header_bytes (length s)) (form_of s).known h).0

pub head_is : (s : List ℕ) → form_ok s ≡ true → link_count_ok s ≡ true → counts_ok s ≡ true → offsets_ok s ≡ true → Head s
unfolding link_count_ok counts_ok offsets_ok
head_is s f l n o =
    let end = end_at (link_bytes s) (k_of s) (n_of s) (q_of s) (t_of s) in
    let v = and_out (ltb 0 (k_of s)) (leb (k_of s) (form_of s).links) l in
    let w = and_out (ltb 0 (n_of s) && leb (n_of s) (form_of s).freqs && leb (q_of s) most_rules)
    (leb (t_of s) most_pairs) n in
    let x = and_out (ltb 0 (n_of s) && leb (n_of s) (form_of s).freqs) (leb (q_of s) most_rules) w.0 in
    let y = and_out (ltb 0 (n_of s)) (leb (n_of s) (form_of s).freqs) x.0 in
    let f-small = form_small (le32 s 0) in
    let k_few = leb-true (k_of s) (form_of s).links v.1 in
    let n_few = leb-true (n_of s) (form_of s).freqs y.1 in
    record {
      k_some = ltb-true 0 (k_of s) v.0;
      k_few = k_few;
      k_small = omega (arith, f-small.links);
      n_some = ltb-true 0 (n_of s) y.0;
      n_few = n_few;
      n_small = omega (arith, f-small.freqs);
      q_small = leb-true (q_of s) most_rules x.1;
      t_small = leb-true (t_of s) most_pairs w.1;
      long = form_long s f;
      whole = eqb-true (length s) end (and_out (table_ok s) (eqb (length s) end) o).1;
    }

pub accepted : (s : List ℕ) → refusal s ≡ 0 → Accepted s
unfolding refusal section_cause
accepted s e =
    let a = passed (form_ok s) 1 _ (lit< tt) e in
    let b = passed (link_count_ok s) 2 _ (lit< tt) a.1 in
    let c = passed (counts_ok s) 3 _ (lit< tt) b.1 in
    let d = passed (offsets_ok s) 4 _ (lit< tt) c.1 in
    let l = passed (links_ok s (k_of s) (n_of s)) 5 _ (lit< tt) d.1 in
    let w = passed (widths_ok s (k_of s)) 16 _ (lit< tt) l.1 in
    let f = passed (freqs_ok s (freq_part s) (k_of s)) 6 _ (lit< tt) w.1 in
    let r = passed (rules_ok (rule_part s) (k_of s) (q_of s) (t_of s)) 7 _ (lit< tt) f.1 in
    record {
      head = head_is s a.0 b.0 c.0 d.0;
      links = l.0;
      widths = w.0;
      freqs = f.0;
      rules = r.0;
      pairs = unless_zero (pairs_ok s (rule_part s) (pair_part s) (q_of s)) 8 (lit< tt) r.1;
    }

section_most : (s : List ℕ) → section_cause s ≤ 16
unfolding section_cause
section_most s =
    passing_most (links_ok s (k_of s) (n_of s)) 5 16 _ (omega arith)
    (passing_most (widths_ok s (k_of s)) 16 16 _ (omega arith)
    (passing_most (freqs_ok s (freq_part s) (k_of s)) 6 16 _ (omega arith)
    (passing_most (rules_ok (rule_part s) (k_of s) (q_of s) (t_of s)) 7 16 _ (omega arith)
    (unless_most (pairs_ok s (rule_part s) (pair_part s) (q_of s)) 8 16 (omega arith)))))

pub refusal_most : (s : List ℕ) → refusal s ≤ 16
unfolding refusal
refusal_most s =
    passing_most (form_ok s) 1 16 _ (omega arith)
    (passing_most (link_count_ok s) 2 16 _ (omega arith)
    (passing_most (counts_ok s) 3 16 _ (omega arith)
    (passing_most (offsets_ok s) 4 16 _ (omega arith) (section_most s))))

-- a sheet whose tests hold is accepted
pub no_cause : (s : List ℕ) → form_ok s ≡ true → link_count_ok s ≡ true → counts_ok s ≡ true → offsets_ok s ≡ true
    → links_ok s (k_of s) (n_of s) ≡ true → widths_ok s (k_of s) ≡ true → freqs_ok s (freq_part s) (k_of s) ≡ true
    → rules_ok (rule_part s) (k_of s) (q_of s) (t_of s) ≡ true
    → pairs_ok s (rule_part s) (pair_part s) (q_of s) ≡ true → refusal s ≡ 0
unfolding refusal section_cause unless
no_cause s a b c d e w f g h = rw (a, b, c, d, e, w, f, g, h)
