-- The `e` lines of the graph text, one by one, and whether an edge clashes.
use Rattle.std.proofs.Common.{◌≡◌, refl, sym, ap, subst, ◌∙◌, Bool, true, false, ◌||◌, Option, None, List, []}
use Rattle.std.proofs.Common.{ℕ, zero, suc, ◌+◌, ◌-◌, ◌*◌, ◌≤◌, ◌<◌, mul-le-mul, arith, eq-eqb, ne_eqb}
use Rattle.std.proofs.Common.{length, drop, get_or, length-drop, drop_of_length-le}
use Rattle.sets.specs.Sets.{Set, ◌∪◌, just, nothing}
use Rattle.vset.specs.Words.{has}
use Rattle.dimacs.specs.Reading.{is_empty, vertices_of}
use Rattle.dimacs.specs.Reading.{Line, no_line, an_edge, edge_line, clashes}
use Rattle.dimacs.specs.Reading.{Edges, no_edges, edges, edges_from}
use Rattle.dimacs.proofs.Choices.{yes_is, no_is, edges_turn}
use Rattle.dimacs.proofs.Codes.{code_lt}
use Rattle.graph_read.specs.Read.{most_value}
use Rattle.graph_read.specs.Graphs.{LayersTold, LineTold, lines_are, EdgesTold}
use Rattle.graph_read.specs.declared.edges.Edge.{Edge}
use Rattle.graph_read.proofs.CountLines.{some_left}
use Rattle.graph_read.proofs.Firsts.{layer_at}
use Rattle.graph_read.proofs.OneLine.{LineRead, told_no_line}

-- the codes of n vertices
pub code_few : (n u v : ℕ) → n ≤ 512 → u < n → v < n → u * n + v < 262144
code_few n u v h a b = omega (arith, code_lt n n u v a b, mul-le-mul h h)

-- the edges from a place on
abbrev pub edges_at : List ℕ → List ℕ → ℕ → Edges
edges_at cs text at = edges_from cs (length (drop at text) + 1) 0 nothing false (drop at text)

-- the lines so far: `lines` of them, with the codes E and the clash x, and the lines from `place` on to come
pub record SoFar (cs text : List ℕ) (at place lines : ℕ) (E : Set) (x : Bool) : Type 0 where
  pub turns : ℕ
  pub enough : length text - place < turns
  pub same : edges_at cs text at ≡ edges_from cs turns lines E x (drop place text)

pub so_far_none : (cs text : List ℕ) (at : ℕ) {E : Set} → E ≡ nothing → SoFar cs text at at 0 E false
so_far_none cs text at e = record {
  turns = length (drop at text) + 1;
  enough = omega (arith, length-drop at text);
  same = ap (λ S. edges_from cs (length (drop at text) + 1) 0 S false (drop at text)) (sym e);
}

line_is {ℓ} : {A : Type ℓ} (w : Line) (x : A) (f : ℕ → ℕ → List ℕ → A) → w ≡ no_line
    → elim w [ no_line ↦ x | an_edge u v s ↦ f u v s ] ≡ x
line_is w x f e = ap (λ c. elim c [ no_line ↦ x | an_edge u v s ↦ f u v s ]) e

turn_none : (cs : List ℕ) (turns m : ℕ) (E : Set) (x : Bool) (s : List ℕ) → is_empty s ≡ false
    → edge_line (vertices_of cs) s ≡ no_line → edges_from cs turns m E x s ≡ no_edges
unfolding edges_from
turn_none cs zero m E x s e f = refl
turn_none cs (suc turns) m E x s e f = no_is (is_empty s) _ _ e ∙ line_is (edge_line (vertices_of cs) s) _ _ f

turn_end : (cs : List ℕ) (turns m : ℕ) (E : Set) (x : Bool) (s : List ℕ) → 0 < turns → s ≡ []
    → edges_from cs turns m E x s ≡ edges m E x
unfolding edges_from
turn_end cs zero m E x s h e = absurd (omega arith)
turn_end cs (suc turns) m E x s h e = yes_is (is_empty s) _ _ (ap is_empty e)

module _ {cs text : List ℕ} {at place lines : ℕ} {E : Set} {x : Bool} (p : SoFar cs text at place lines E x) where
  -- the line at the place, over n vertices
  line_same : {n : ℕ} → n ≡ vertices_of cs → edge_line (vertices_of cs) (drop place text) ≡ edge_line n (drop place text)
  line_same q = ap (λ i. edge_line i (drop place text)) (sym q)

  pub bad_edge : (n : ℕ) (codes : List ℕ) {r : Option Edge} → n ≡ vertices_of cs → place < length text → r ≡ None
      → LineTold text place n (edge_line n (drop place text)) r → EdgesTold (edges_at cs text at) codes None
  bad_edge n codes q h e t =
      let l = edge_line n (drop place text) in
      let none = told_no_line text place n l (subst (LineTold text place n l) e t) in
      let d = turn_none cs p.turns lines E x (drop place text) (some_left text place h) (line_same q ∙ none) in
      subst (λ w. EdgesTold w codes None) (sym (p.same ∙ d)) refl

  pub so_far_more : {F : Set} {y b : Bool} {n u v next : ℕ} → n ≡ vertices_of cs → place < length text
      → LineRead text place n (edge_line n (drop place text)) u v next → b ≡ clashes cs E u v → y ≡ (x || b)
      → F ≡ E ∪ just (u * n + v) → SoFar cs text at next (lines + 1) F y
  so_far_more {F} {y} {b} {n} {u} {v} {next} q h l c d f = go p.turns p.enough p.same
    where
      codes_same : E ∪ just (u * vertices_of cs + v) ≡ F
      codes_same = ap (λ i. E ∪ just (u * i + v)) (sym q) ∙ sym f

      clash_same : (x || clashes cs E u v) ≡ y
      clash_same = ap (λ z. x || z) (sym c) ∙ sym d

      go : (turns : ℕ) → length text - place < turns
          → edges_at cs text at ≡ edges_from cs turns lines E x (drop place text) → SoFar cs text at next (lines + 1) F y
      go zero g s = absurd (omega arith)
      go (suc turns) g s = record {
        turns = turns;
        enough = omega (arith, l.later, l.within);
        same = s ∙ edges_turn cs turns lines E x (drop place text) u v (drop next text)
            (some_left text place h) (line_same q ∙ l.is)
            ∙ ap (λ S. edges_from cs turns (lines + 1) S (x || clashes cs E u v) (drop next text)) codes_same
            ∙ ap (λ z. edges_from cs turns (lines + 1) F z (drop next text)) clash_same;
      }

  pub edges_done : (codes : List ℕ) → E ≡ has codes → length text ≤ place → lines < most_value
      → EdgesTold (edges_at cs text at) codes (lines_are lines x)
  edges_done codes e h few =
      let none = drop_of_length-le text h in
      let d = turn_end cs p.turns lines E x (drop place text) (omega (arith, p.enough)) none in
      subst (λ w. EdgesTold w codes (lines_are lines x)) (sym (p.same ∙ d)) (refl, sym e, few)

-- whether an edge clashes

module _ {cs : List ℕ} {n : ℕ} {layers : List ℕ} (t : LayersTold cs n layers) (few : n ≤ 512) where
  module _ (E : Set) (u v : ℕ) (a : u < n) (b : v < n) where
    abbrev repeated : Bool
    repeated = E (u * vertices_of cs + v) || E (v * vertices_of cs + u)

    pub clash_inside : {r : Bool} → get_or layers u 0 ≡ get_or layers v 0 → r ≡ true → r ≡ clashes cs E u v
    unfolding clashes
    clash_inside e f =
        let q = sym (layer_at t few u a) ∙ e ∙ layer_at t few v b in
        f ∙ sym (ap (λ x. x || repeated) (eq-eqb _ _ q))

    pub clash_repeated : {r : Bool} → (get_or layers u 0 ≡ get_or layers v 0 → ⊥) → r ≡ (E (u * n + v) || E (v * n + u))
        → r ≡ clashes cs E u v
    unfolding clashes
    clash_repeated ne e =
        let d = ne_eqb _ _ (λ q. ne (layer_at t few u a ∙ q ∙ sym (layer_at t few v b))) in
        e ∙ ap (λ i. E (u * i + v) || E (v * i + u)) t.vertices ∙ sym (ap (λ x. x || repeated) d)
