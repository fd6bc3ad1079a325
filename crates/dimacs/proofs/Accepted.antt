-- The reader accepts the sheet that is made.
use mathlib.Core.Path.{◌≡◌, ap, ◌∙◌}
use mathlib.Core.Bool.{Bool}
use mathlib.Core.List.{List}
use Prim.Native.Nat.{ℕ, ◌≤◌, ◌<◌}
use native.Mathlib.Omega.{arith}
use lib.ListN.{length}
use borrow.Author.Tests.{lt-ltb, le-leb, eq-eqb}
use Rattle.sets.proofs.Tests.{and_in}
use Rattle.sheet_rows.specs.declared.Form.{Form}
use Rattle.sheet_rows.specs.Rows.{header_bytes, link_bytes}
use Rattle.sheet_rows.proofs.Rows.{one_is}
use Rattle.rule_sections.specs.Rules.{most_pairs}
use Rattle.sheet.specs.Sheet.{k_of}
use Rattle.sheet.proofs.Links.{no_widths}
use Rattle.sheet.specs.Refusal.{form_ok, link_count_ok, counts_ok, table_ok, offsets_ok, refusal}
use Rattle.sheet.proofs.Accepted.{no_cause}
use Rattle.dimacs.specs.Reading.{vertices_of}
use Rattle.dimacs.specs.Made.{made_bytes, pair_total, sheet_of}
use Rattle.dimacs.proofs.Fields.{sections}
use Rattle.dimacs.proofs.Accepts.{Small, in_all, links_ok_lem, freqs_ok_lem, rules_ok_lem, pairs_ok_lem}
use Rattle.dimacs.proofs.Few.{rules_few}

module _ (cs : List ℕ) (adj : ℕ → ℕ → Bool) (S : Small cs) (few : pair_total cs adj ≤ most_pairs) where
  freqs_some : 0 < vertices_of cs
  freqs_some = omega (arith, in_all cs 0 0 S.links_some (S.some 0 S.links_some))

  pub sheet_accepted : refusal (sheet_of cs adj) ≡ 0
  unfolding form_ok link_count_ok counts_ok offsets_ok table_ok
  sheet_accepted =
      let Q = sections cs adj in
      let s = sheet_of cs adj in
      let o = Q.offsets in
      let long : header_bytes ≤ length s = omega (arith, Q.long) in
      let one = Q.form ∙ one_is in
      let four : link_bytes s ≡ made_bytes = ap (λ (f : Form). f.bytes) one in
      no_cause s
      (and_in (le-leb _ _ long) (ap (λ (f : Form). f.known) one))
      (rw (one, Q.k) (and_in (lt-ltb _ _ S.links_some) (le-leb _ _ S.links_few)))
      (rw (one, Q.n, Q.q, Q.t)
      (and_in (and_in (and_in (lt-ltb _ _ freqs_some) (le-leb _ _ S.freqs_few))
      (le-leb _ _ (rules_few cs adj S))) (le-leb _ _ few)))
      (rw (four, Q.k, Q.n, Q.q, Q.t)
      (and_in (and_in
      (and_in (and_in (and_in (eq-eqb _ _ o.links) (eq-eqb _ _ o.freqs)) (eq-eqb _ _ o.rules))
      (eq-eqb _ _ o.pairs)) (eq-eqb _ _ o.end)) (eq-eqb _ _ Q.long)))
      (rw (Q.k, Q.n) (links_ok_lem cs s S Q.links))
      (no_widths s (k_of s) four)
      (rw (Q.freqs, Q.k) (freqs_ok_lem cs s S Q.links _))
      (rw (Q.rules, Q.k, Q.q, Q.t) (rules_ok_lem cs adj S _))
      (rw (Q.rules, Q.pairs, Q.q) (pairs_ok_lem cs adj S s _ Q.links))
