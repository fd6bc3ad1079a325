-- The outcome of an export, cause by cause.
use Rattle.std.proofs.Common.{◌≡◌, refl, sym, ap, subst, ◌∙◌, Bool, true, false, ◌&&◌, Result, Ok, Err, List}
use Rattle.std.proofs.Common.{ℕ, ◌≤◌, ◌<◌, leb, eqb, lit<, length, eq-eqb, ne_eqb, le-leb, leb-true, arith}
use Rattle.sets.specs.Below.{tabulate}
use Rattle.sets.proofs.Tests.{bool, clash, and_in, and_l, and_r}
use Rattle.sheet_rows.specs.Rows.{link_count}
use Rattle.sheet.specs.Sheet.{k_of, n_of}
use Rattle.sheet.specs.Refusal.{number_of, refusal, unless}
use Rattle.sheet.specs.declared.Cause.{Cause}
use Rattle.sheet.proofs.Causes.{cause_some, unless_true, unless_false}
use Rattle.rules.specs.Job.{job_of}
use Rattle.graph.specs.Graph.{edge}
use Rattle.graph.specs.Rows.{Built}
use Rattle.zeros.specs.Zeros.{zeros}
use Rattle.output.specs.Output.{padded, Wrote}
use Rattle.output.proofs.Wrote.{wrote_padded, wrote_same}
use Rattle.dimacs.specs.Export.{graph_text, counts_text, counts_of, graph_text_of, counts_text_of, export_cause, exported}
use Rattle.dimacs.proofs.Choices.{yes_is, no_is}
use Rattle.graph_export.specs.Rows.{row_words, TextPut}
use Rattle.graph_export.specs.Gives.{export_number, most_graph, most_counts, lengths_of, BothPut, ExportFinished, ExportGives}
use Rattle.graph_export.specs.declared.ExportRefusal.{ExportRefusal}
use Rattle.graph_export.specs.declared.ExportRefusal.TheVariants.{Sheet, Short}
use Rattle.graph_export.specs.declared.Lengths.{Lengths}

-- both texts fit
fits : List ℕ → ℕ → ℕ → Bool
fits s g c = leb (length (graph_text_of s)) g && leb (length (counts_text_of s)) c

module _ (s : List ℕ) (g c : ℕ) where
  fits_graph : fits s g c ≡ true → length (graph_text_of s) ≤ g
  unfolding fits
  fits_graph t = leb-true _ _ (and_l (leb (length (graph_text_of s)) g) _ t)

  fits_counts : fits s g c ≡ true → length (counts_text_of s) ≤ c
  unfolding fits
  fits_counts t = leb-true _ _ (and_r (leb (length (graph_text_of s)) g) _ t)

  fits_in : length (graph_text_of s) ≤ g → length (counts_text_of s) ≤ c → fits s g c ≡ true
  unfolding fits
  fits_in a b = and_in (le-leb _ _ a) (le-leb _ _ b)

  sheet_cause : (refusal s ≡ 0 → ⊥) → export_cause s g c ≡ refusal s
  unfolding export_cause
  sheet_cause ne = rw (ne_eqb (refusal s) 0 ne) refl

  text_cause : refusal s ≡ 0 → export_cause s g c ≡ unless (fits s g c) 15
  unfolding export_cause fits
  text_cause e = rw e refl

  short_cause : refusal s ≡ 0 → fits s g c ≡ false → export_cause s g c ≡ 15
  short_cause e t = text_cause e ∙ sym (unless_false (fits s g c) 15 t)

  written : refusal s ≡ 0 → fits s g c ≡ true → exported s g c ≡ record {
    answer = 0;
    graph_length = length (graph_text_of s);
    counts_length = length (counts_text_of s);
    graph = padded (graph_text_of s) g;
    counts = padded (counts_text_of s) c;
  }
  unfolding exported
  written e t = yes_is (eqb (export_cause s g c) 0) _ _ (eq-eqb _ 0 (text_cause e ∙ sym (unless_true (fits s g c) 15 t)))

  -- a refusal: its number, no lengths and zeros
  refused_gives : (a : ExportRefusal) (m : ℕ) {G C : List ℕ} → export_cause s g c ≡ m → 0 < m
      → export_number (Err a) ≡ m → G ≡ zeros g → C ≡ zeros c → ExportGives (exported s g c) (Err a) G C
  unfolding exported
  refused_gives a m {G} {C} e o n x y =
      subst (λ z. ExportGives z (Err a) G C)
      (sym (no_is (eqb (export_cause s g c) 0) _ _ (ne_eqb (export_cause s g c) 0 (λ i. omega arith))))
      (record {
        answer = n ∙ sym e;
        graph_length_is = refl;
        counts_length_is = refl;
        graph = x;
        counts = y;
        graph_few = omega arith;
        counts_few = omega arith;
      })

  pub sheet_gives : {reading : Result (Unit {0}) Cause} {cause : Cause} {G C : List ℕ} → number_of reading ≡ refusal s
      → reading ≡ Err cause → G ≡ zeros g → C ≡ zeros c → ExportGives (exported s g c) (Err (Sheet cause)) G C
  sheet_gives {cause = cause} e t x y =
      let n = sym (ap number_of t) ∙ e in
      let l = cause_some cause in
      refused_gives (Sheet cause) (refusal s) (sheet_cause (λ i. omega arith)) (omega arith) n x y

  -- the texts of an accepted sheet, whole or cut
  pub texts_give : {L : Lengths} {G G₁ G₂ C C₁ C₂ : List ℕ} {r : Result Lengths ExportRefusal} → refusal s ≡ 0 → length G ≡ g → length C ≡ c
      → G ≡ zeros (length G) → C ≡ zeros (length C) → BothPut (graph_text_of s) (counts_text_of s) G G₁ C C₁ L
      → ExportFinished L G₁ G₂ C₁ C₂ r → ExportGives (exported s g c) r G₂ C₂
  texts_give {L} {G} {G₁} {G₂} {C} {C₁} {C₂} {r} ok lg lc hg hc b f = bool (fits s g c) yes no
    where
      eg : L.graph ≡ length (graph_text_of s)
      eg = omega (arith, b.graph.end)

      ec : L.counts ≡ length (counts_text_of s)
      ec = omega (arith, b.counts.end)

      ng : length G₁ ≡ g
      ng = b.graph.size ∙ lg

      nc : length C₁ ≡ c
      nc = b.counts.size ∙ lc

      yes : fits s g c ≡ true → ExportGives (exported s g c) r G₂ C₂
      yes t =
          let a = fits_graph t in
          let d = fits_counts t in
          let w = f.whole (omega (arith, eg, ng)) (omega (arith, ec, nc)) in
          subst (λ z. ExportGives z r G₂ C₂) (sym (written ok t)) (record {
            answer = ap export_number w.0;
            graph_length_is = ap (λ z. (lengths_of z).graph) w.0 ∙ eg;
            counts_length_is = ap (λ z. (lengths_of z).counts) w.0 ∙ ec;
            graph = w.1 ∙ wrote_padded g b.graph (hg ∙ ap zeros lg) a;
            counts = w.2 ∙ wrote_padded c b.counts (hc ∙ ap zeros lc) d;
            graph_few = omega (arith, ap (λ z. (lengths_of z).graph) w.0, b.graph_few);
            counts_few = omega (arith, ap (λ z. (lengths_of z).counts) w.0, b.counts_few);
          })

      no : fits s g c ≡ false → ExportGives (exported s g c) r G₂ C₂
      no t =
          let w = f.short (λ p.
          clash (fits s g c) (fits_in (omega (arith, eg, ng, p.0)) (omega (arith, ec, nc, p.1))) t) in
          subst (λ z. ExportGives (exported s g c) z G₂ C₂) (sym w.0)
          (refused_gives Short 15 (short_cause ok t) (lit< tt) refl (w.1 ∙ ap zeros ng) (w.2 ∙ ap zeros nc))

-- the texts that the rows and the counts of a sheet give
pub both_put : (s : List ℕ) {p q G G' C C' : List ℕ} {n k : ℕ} {r : Lengths} → n ≡ n_of s → k ≡ k_of s
    → Built (edge (job_of s)) row_words 0 n p q → TextPut (graph_text n) n most_graph q G G' r.graph
    → Wrote (counts_text (tabulate k (link_count s))) C 0 C' r.counts → r.counts ≤ most_counts
    → BothPut (graph_text_of s) (counts_text_of s) G G' C C' r
unfolding counts_of
both_put s e f B P W few = record {
  graph = wrote_same (ap (λ i. graph_text i (edge (job_of s))) e) (P.wrote (edge (job_of s)) (record { rows = B.rows }));
  counts = wrote_same (ap (λ i. counts_text (tabulate i (link_count s))) f) W;
  graph_few = P.few;
  counts_few = few;
}

pub gives_sized : (s : List ℕ) {G C : List ℕ} (g g' c c' : ℕ) {r : Result Lengths ExportRefusal} → g ≡ g' → c ≡ c'
    → ExportGives (exported s g c) r G C → ExportGives (exported s g' c') r G C
gives_sized s g g' c c' e f x = rw (← e, ← f) x
