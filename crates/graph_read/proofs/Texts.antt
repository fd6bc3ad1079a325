-- Both texts.
use Rattle.std.proofs.Common.{◌≡◌, refl, sym, ap, subst, ◌∙◌, Bool, true, false, Option, Some, None, Result, Err}
use Rattle.std.proofs.Common.{List, [], ℕ, ◌+◌, ◌≤◌, ltb, length, take, length-take-le, take_all, arith, lt-ltb, le-ltb}
use Rattle.std.proofs.lemmas.Option.{same_Some}
use Rattle.sets.specs.Sets.{nothing}
use Rattle.vset.specs.Words.{has}
use Rattle.rows.specs.Rows.{set_at, Put}
use Rattle.dimacs.specs.Reading.{first_of, vertices_of, CountList, no_counts, counts}
use Rattle.dimacs.specs.Reading.{Edges, no_edges, edges, edges_of, malformed, texts_over, texts_by, texts_of}
use Rattle.dimacs.proofs.Choices.{yes_is, no_is}
use Rattle.dimacs.proofs.Sound.{Few, AllCounts, counts_few, none_few}
use Rattle.graph_read.specs.Read.{CountsTold}
use Rattle.graph_read.specs.Graphs.{Links, lines_are, EdgesTold, graph_of, TextsOf, TextsTold}
use Rattle.graph_read.specs.declared.GraphSizes.{GraphSizes}
use Rattle.graph_read.specs.declared.TextsRefusal.{TextsRefusal}
use Rattle.graph_read.specs.declared.TextsRefusal.TheVariants.{Malformed, Clashing}
use Rattle.graph_read.specs.declared.edges.EdgeLines.{EdgeLines}
use Rattle.graph_read.proofs.CountLines.{counts_in}

-- words that were cleared have no codes
pub cleared : {p q : List ℕ} → length q ≡ 4096 → Put nothing 4096 0 p q → has q ≡ nothing
unfolding set_at
cleared {p} {q} l e = sym (ap has (take_all 4096 q (omega arith))) ∙ e.here

-- the texts by their edges

over_none : (cs : List ℕ) (w : Edges) (codes : List ℕ) → EdgesTold w codes None → texts_over cs w ≡ malformed
unfolding texts_over
over_none cs no_edges codes t = refl
over_none cs (edges l E x) codes t = cc

pub texts_none : (k n : ℕ) {e : Option EdgeLines} → e ≡ None → TextsOf k n e (Err Malformed)
texts_none k n q = record {
  answer = λ w out codes L s t. subst (λ x. TextsTold x out codes (Err Malformed))
      (sym (over_none (take k out) w codes (subst (EdgesTold w codes) q t))) refl;
}

same_clash : {m l : ℕ} {x y : Bool} → lines_are m x ≡ lines_are l y → y ≡ x
same_clash e = ap (λ (i : EdgeLines). i.clash) (sym (same_Some _ _ e))

module _ (k n : ℕ) (lines : EdgeLines) where
  over_clash : lines.clash ≡ true → (w : Edges) (out codes : List ℕ) → EdgesTold w codes (Some lines)
      → TextsTold (texts_over (take k out) w) out codes (Err Clashing)
  unfolding texts_over
  over_clash c no_edges out codes t = cc
  over_clash c (edges l E x) out codes t =
      let q = same_clash t.0 in
      subst (λ y. TextsTold y out codes (Err Clashing)) (sym (yes_is x _ _ (q ∙ c))) refl

  over_graph : lines.clash ≡ false → (w : Edges) (out codes : List ℕ) → Links out k → n ≡ vertices_of (take k out)
      → EdgesTold w codes (Some lines) → TextsTold (texts_over (take k out) w) out codes (graph_of k n)
  unfolding texts_over
  over_graph c no_edges out codes L s t = cc
  over_graph c (edges l E x) out codes L s t =
      let q = same_clash t.0 in
      let i = sym (length-take-le k out L.room) in
      subst (λ y. TextsTold y out codes (graph_of k n)) (sym (no_is x _ _ (q ∙ c)))
      (record {
        is = ap (λ j. graph_of j n) i ∙ ap (graph_of (length (take k out))) s;
        links = subst (Links out) i L;
        are = ap (λ j. take j out) (sym i);
        edges = t.1;
      })

  pub texts_clash : {e : Option EdgeLines} → e ≡ Some lines → lines.clash ≡ true → TextsOf k n e (Err Clashing)
  texts_clash q c = record {
    answer = λ w out codes L s t. over_clash c w out codes (subst (EdgesTold w codes) q t);
  }

  pub texts_graph : {e : Option EdgeLines} → e ≡ Some lines → lines.clash ≡ false → TextsOf k n e (graph_of k n)
  texts_graph q c = record {
    answer = λ w out codes L s t. over_graph c w out codes L s (subst (EdgesTold w codes) q t);
  }

-- the texts by their counts

told_no_counts : (w : CountList) (out : List ℕ) → CountsTold w out None → w ≡ no_counts
told_no_counts no_counts out t = refl
told_no_counts (counts cs) out t = cc

-- counts that were told
told_counts : (out : List ℕ) (k : ℕ) (w : CountList) → CountsTold w out (Some k)
    → (w ≡ counts (take k out)) × (k ≤ length out)
told_counts out k no_counts t = cc
told_counts out k (counts cs) t =
    let e = t.0 in
    let q : length cs ≡ k = cc in
    (ap counts (sym t.1 ∙ ap (λ j. take j out) q), omega (arith, t.2))

module _ (text sizes out codes : List ℕ) where
  -- both texts, from the counts on
  told_by : (r : Result GraphSizes TextsRefusal) {w : CountList} → counts_in sizes ≡ w → TextsTold (texts_by text w) out codes r
      → TextsTold (texts_of text sizes) out codes r
  unfolding texts_of
  told_by r e t = subst (λ w. TextsTold (texts_by text w) out codes r) (sym e) t

  by_none : TextsTold (texts_by text no_counts) out codes (Err Malformed)
  unfolding texts_by
  by_none = refl

  pub counts_none : {c : Option ℕ} → c ≡ None → CountsTold (counts_in sizes) out c
      → TextsTold (texts_of text sizes) out codes (Err Malformed)
  counts_none e t =
      let m = subst (CountsTold (counts_in sizes) out) e t in
      told_by (Err Malformed) (told_no_counts (counts_in sizes) out m) by_none

  module _ {k : ℕ} {c : Option ℕ} (e : c ≡ Some k) (t : CountsTold (counts_in sizes) out c) where
    are : (counts_in sizes ≡ counts (take k out)) × (k ≤ length out)
    are = told_counts out k (counts_in sizes) (subst (CountsTold (counts_in sizes) out) e t)

    length_is : length (take k out) ≡ k
    length_is = length-take-le k out are.1

    pub counts_zero : k ≡ 0 → TextsTold (texts_of text sizes) out codes (Err Malformed)
    unfolding texts_by
    counts_zero z =
        let d = le-ltb 0 (length (take k out)) (omega (arith, length_is)) in
        told_by (Err Malformed) are.0
        (subst (λ w. TextsTold w out codes (Err Malformed)) (sym (no_is (ltb 0 (length (take k out))) _ _ d)) refl)

    pub counts_links : (k ≡ 0 → ⊥) → Links out k
    counts_links ne =
        let f = subst (AllCounts Few) are.0 (counts_few (length sizes + 1) [] sizes none_few) in
        let l = length_is in
        let q = ap (first_of (take k out)) (sym l) in
        record {
          some = omega (arith, ne);
          links = omega (arith, f.links);
          room = are.1;
          few = omega (arith, f.freqs);
        }

    pub counts_over : (r : Result GraphSizes TextsRefusal) → (k ≡ 0 → ⊥)
        → TextsTold (texts_over (take k out) (edges_of (take k out) text)) out codes r
        → TextsTold (texts_of text sizes) out codes r
    unfolding texts_by
    counts_over r ne u =
        let d = lt-ltb 0 (length (take k out)) (omega (arith, ne, length_is)) in
        told_by r are.0
        (subst (λ w. TextsTold w out codes r) (sym (yes_is (ltb 0 (length (take k out))) _ _ d)) u)
