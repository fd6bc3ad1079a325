-- The first line of the graph text.
use Rattle.std.proofs.Common.{◌≡◌, refl, sym, ap, subst, ◌∙◌, Bool, true, false, Option, Some, None}
use Rattle.std.proofs.Common.{List, [], ◌∷◌, ℕ, ◌≤◌, eqb, drop, arith, eq-eqb, ne_eqb, eqb-true}
use Rattle.std.specs.Bool.{then_some}
use Rattle.std.proofs.Common.{subst₂}
use Rattle.std.proofs.lemmas.Option.{same_Some}
use Rattle.sets.proofs.Tests.{bool, clash}
use Rattle.lines.specs.Lines.{ascii}
use Rattle.dimacs.specs.Reading.{Number, no_number, field, vertices_of}
use Rattle.dimacs.specs.Reading.{Edges, no_edges, edges, of_lines, lines_from, head_from, edges_of}
use Rattle.dimacs.proofs.Choices.{yes_is, no_is}
use Rattle.graph_read.specs.Read.{capped, Told}
use Rattle.graph_read.specs.Graphs.{lines_are, EdgesTold, OfLines}
use Rattle.graph_read.specs.declared.Digits.{Digits}
use Rattle.graph_read.specs.declared.edges.EdgeLines.{EdgeLines}
use Rattle.graph_read.proofs.Numbers.{Read, told_nothing}
use Rattle.graph_read.proofs.CountLines.{line_at}
use Rattle.graph_read.proofs.EdgeLines.{edges_at}

-- as many lines as the first line says

lines_not : (m : ℕ) (w : Edges) (codes : List ℕ) → EdgesTold w codes None → of_lines m w ≡ no_edges
unfolding of_lines
lines_not m no_edges codes t = refl
lines_not m (edges l E x) codes t = cc

pub of_none : (value : ℕ) {e : Option EdgeLines} → e ≡ None → OfLines value e None
of_none value q = record {
  answer = λ m w codes g t. subst (λ x. EdgesTold x codes None)
      (sym (lines_not m w codes (subst (EdgesTold w codes) q t))) refl;
}

same_count : {m l : ℕ} {x y : Bool} → lines_are m x ≡ lines_are l y → m ≡ l
same_count e = ap (λ (i : EdgeLines). i.count) (same_Some _ _ e)

module _ (value : ℕ) (lines : EdgeLines) where
  lines_other : eqb lines.count value ≡ false → (m : ℕ) (w : Edges) (codes : List ℕ) → value ≡ capped m
      → EdgesTold w codes (Some lines) → of_lines m w ≡ no_edges
  unfolding of_lines capped
  lines_other ne m no_edges codes g t = refl
  lines_other ne m (edges l E x) codes g t =
      let q = same_count t.0 in
      no_is (eqb l m) _ _ (ne_eqb l m (λ i. clash (eqb lines.count value) (eq-eqb lines.count value (omega (arith, t.2))) ne))

  lines_same : eqb lines.count value ≡ true → (m : ℕ) (w : Edges) (codes : List ℕ) → value ≡ capped m
      → EdgesTold w codes (Some lines) → of_lines m w ≡ w
  unfolding of_lines capped
  lines_same h m no_edges codes g t = refl
  lines_same h m (edges l E x) codes g t =
      let q = same_count t.0 in
      let e = eqb-true lines.count value h in
      yes_is (eqb l m) _ _ (eq-eqb l m (omega (arith, t.2)))

  pub of_counted : {e r : Option EdgeLines} → e ≡ Some lines → r ≡ then_some (eqb lines.count value) lines → OfLines value e r
  of_counted {e} {r} q f = record {
    answer = λ m w codes g t. let d = subst (EdgesTold w codes) q t in bool (eqb lines.count value)
        (λ h. subst₂ (λ x y. EdgesTold x codes y) (sym (lines_same h m w codes g d)) (sym (f ∙ ap (λ b. then_some b lines) h)) d)
        (λ h. subst₂ (λ x y. EdgesTold x codes y) (sym (lines_other h m w codes g d)) (sym (f ∙ ap (λ b. then_some b lines) h)) refl);
  }

-- the first line

-- its first number
abbrev pub head_of : List ℕ → Number
head_of text = field (112 ∷ 32 ∷ 101 ∷ 100 ∷ 103 ∷ 101 ∷ 32 ∷ []) 32 (drop 0 text)

module _ (cs text codes : List ℕ) where
  no_edges_lem : edges_of cs text ≡ no_edges → EdgesTold (edges_of cs text) codes None
  no_edges_lem e = subst (λ w. EdgesTold w codes None) (sym e) refl

  no_head : head_of text ≡ no_number → edges_of cs text ≡ no_edges
  unfolding edges_of head_from ascii
  no_head e = ap (head_from cs) e

  pub head_none : {f : Option Digits} → f ≡ None → Told text (head_of text) f → EdgesTold (edges_of cs text) codes None
  head_none e t = no_edges_lem (no_head (told_nothing text (head_of text) e t))

  module _ {n value next : ℕ} (few : n ≤ 512) (q : n ≡ vertices_of cs) (R : Read text (head_of text) value next) where
    abbrev rest : Edges
    rest = lines_from cs (line_at text next)

    head_is : edges_of cs text ≡ elim (eqb R.v (vertices_of cs)) [ true ↦ rest | false ↦ no_edges ]
    unfolding edges_of head_from ascii
    head_is = ap (head_from cs) R.is

    pub head_other : (value ≡ n → ⊥) → EdgesTold (edges_of cs text) codes None
    unfolding capped
    head_other ne =
        let e = R.value_is in
        let d = ne_eqb R.v (vertices_of cs) (λ i. ne (omega arith)) in
        no_edges_lem (head_is ∙ no_is (eqb R.v (vertices_of cs)) _ _ d)

    head_same : value ≡ n → edges_of cs text ≡ rest
    unfolding capped
    head_same h =
        let e = R.value_is in
        head_is ∙ yes_is (eqb R.v (vertices_of cs)) _ _ (eq-eqb R.v (vertices_of cs) (omega arith))

    no_lines : line_at text next ≡ no_number → rest ≡ no_edges
    unfolding lines_from
    no_lines e = ap (lines_from cs) e

    pub lines_none : {f : Option Digits} → value ≡ n → f ≡ None → Told text (line_at text next) f
        → EdgesTold (edges_of cs text) codes None
    lines_none h e t = no_edges_lem (head_same h ∙ no_lines (told_nothing text (line_at text next) e t))

    pub lines_all : {e r : Option EdgeLines} {m start : ℕ} → value ≡ n → Read text (line_at text next) m start
        → EdgesTold (edges_at cs text start) codes e → OfLines m e r → EdgesTold (edges_of cs text) codes r
    unfolding lines_from
    lines_all {e} {r} {m} {start} h S t o =
        let d = o.answer S.v (edges_at cs text start) codes S.value_is t in
        subst (λ w. EdgesTold w codes r) (sym (head_same h ∙ ap (lines_from cs) S.is)) d
