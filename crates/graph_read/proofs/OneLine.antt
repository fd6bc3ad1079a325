-- A line of the graph text: its vertices and its edge.
use Rattle.std.proofs.Common.{◌≡◌, refl, sym, ap, subst, ◌∙◌, Bool, true, false, ◌&&◌, Option, Some, None}
use Rattle.std.proofs.Common.{List, [], ◌∷◌, ℕ, ◌+◌, ◌-◌, ◌≤◌, ◌<◌, min, leb, length, drop, arith}
use Rattle.std.proofs.Common.{lt-ltb, le-ltb, le-leb, leb-true, leb-false}
use Rattle.std.proofs.lemmas.Bool.{lt-leb}
use Rattle.std.proofs.lemmas.Option.{same_Some}
use Rattle.sets.proofs.Tests.{bool, clash, and_in, and_false}
use Rattle.lines.specs.Lines.{ascii}
use Rattle.dimacs.specs.Reading.{Number, no_number, field, is_vertex}
use Rattle.dimacs.specs.Reading.{Line, no_line, an_edge, edge_to, edge_from, edge_line}
use Rattle.dimacs.proofs.Choices.{yes_is, no_is}
use Rattle.graph_read.specs.Read.{most_value, capped, Told}
use Rattle.graph_read.specs.Graphs.{IsVertex, edge_at, LineTold}
use Rattle.graph_read.specs.declared.Digits.{Digits}
use Rattle.graph_read.specs.declared.edges.Edge.{Edge}
use Rattle.graph_read.proofs.Numbers.{Read, told_nothing}
use Rattle.graph_read.proofs.CountLines.{line_at, field_later}

-- vertices

pub vertex_none : (n value : ℕ) {r : Bool} → value ≡ 0 → r ≡ false → IsVertex n value r
unfolding is_vertex capped
vertex_none n value {r} z f = record {
  answer = λ v e. let o : v ≤ 0 = omega arith in f ∙ rw (le-ltb 0 v o) refl;
  small = λ q. clash r q f;
}

pub vertex_in_lem : (n value : ℕ) → n ≤ 512 → (value ≡ 0 → ⊥) → (r : Bool) → r ≡ leb value n → IsVertex n value r
unfolding is_vertex capped
vertex_in_lem n value few ne r e = record {
  answer = λ v g. let o : 0 < v = omega (arith, ne) in rw (lt-ltb 0 v o) (e ∙ same v g);
  small = λ q. let l = leb-true value n (sym e ∙ q) in (omega (arith, ne), l);
}
  where
    same : (v : ℕ) → value ≡ min v most_value → leb value n ≡ leb v n
    same v g = bool (leb value n)
        (λ t. let l = leb-true value n t in t ∙ sym (le-leb v n (omega arith)))
        (λ t. t ∙ sym (lt-leb v n (omega (arith, leb-false value n t))))

-- an `e` line

-- the first number of the line at a place
abbrev pub first_at : List ℕ → ℕ → Number
first_at text at = field (101 ∷ 32 ∷ []) 32 (drop at text)

module _ (text : List ℕ) (at n : ℕ) where
  no_edge : edge_line n (drop at text) ≡ no_line → LineTold text at n (edge_line n (drop at text)) None
  no_edge e = subst (λ w. LineTold text at n w None) (sym e) refl

  first_none : first_at text at ≡ no_number → edge_line n (drop at text) ≡ no_line
  unfolding edge_line edge_from ascii
  first_none e = ap (edge_from n) e

  pub edge_none : {f : Option Digits} → f ≡ None → Told text (first_at text at) f
      → LineTold text at n (edge_line n (drop at text)) None
  edge_none e t = no_edge (first_none (told_nothing text (first_at text at) e t))

  module _ {u gap : ℕ} (R : Read text (first_at text at) u gap) where
    half : edge_line n (drop at text) ≡ edge_to n R.v (line_at text gap)
    unfolding edge_line edge_from ascii
    half = ap (edge_from n) R.is

    to_none : edge_to n R.v no_number ≡ no_line
    unfolding edge_to
    to_none = refl

    pub edge_half : {f : Option Digits} → f ≡ None → Told text (line_at text gap) f
        → LineTold text at n (edge_line n (drop at text)) None
    edge_half e t = no_edge (half ∙ ap (edge_to n R.v) (told_nothing text (line_at text gap) e t) ∙ to_none)

    module _ {v end : ℕ} (S : Read text (line_at text gap) v end) where
      abbrev fine : Bool
      fine = is_vertex n R.v && is_vertex n S.v

      both : edge_line n (drop at text)
          ≡ elim fine [ true ↦ an_edge (R.v - 1) (S.v - 1) (drop end text) | false ↦ no_line ]
      unfolding edge_to
      both = half ∙ ap (edge_to n R.v) S.is

      bad : fine ≡ false → LineTold text at n (edge_line n (drop at text)) None
      bad e = no_edge (both ∙ no_is fine _ _ e)

      first_is : {b : Bool} → IsVertex n u b → is_vertex n R.v ≡ b
      first_is A = sym (A.answer R.v R.value_is)

      second_is : {b : Bool} → IsVertex n v b → is_vertex n S.v ≡ b
      second_is B = sym (B.answer S.v S.value_is)

      pub edge_first_bad : {b : Bool} → IsVertex n u b → b ≡ false
          → LineTold text at n (edge_line n (drop at text)) None
      edge_first_bad A e = bad (ap (λ x. x && is_vertex n S.v) (first_is A ∙ e))

      pub edge_second_bad : {b : Bool} → IsVertex n v b → b ≡ false
          → LineTold text at n (edge_line n (drop at text)) None
      edge_second_bad B e = bad (and_false (is_vertex n R.v) (is_vertex n S.v) (second_is B ∙ e))

      pub edge_there : {b c : Bool} → at ≤ length text → n ≤ 512 → IsVertex n u b → b ≡ true → IsVertex n v c → c ≡ true
          → LineTold text at n (edge_line n (drop at text)) (edge_at (u - 1) (v - 1) end)
      unfolding capped
      edge_there here few A e B f =
          let x = A.small e in
          let y = B.small f in
          let ru = R.value_is in
          let rv = S.value_is in
          let p : u ≡ R.v = omega arith in
          let q : v ≡ S.v = omega arith in
          let a = field_later text (101 ∷ 32 ∷ []) 32 at u gap here R in
          let b = field_later text [] 10 gap v end R.within S in
          subst (λ w. LineTold text at n w (edge_at (u - 1) (v - 1) end))
          (sym (both ∙ yes_is fine _ _ (and_in (first_is A ∙ e) (second_is B ∙ f))))
          (record {
            next = end;
            is = ap (λ i. edge_at (i - 1) (v - 1) end) p ∙ ap (λ i. edge_at (R.v - 1) (i - 1) end) q;
            later = omega arith;
            within = S.within;
            rest = refl;
            first = omega arith;
            second = omega arith;
          })

-- an `e` line that was told
pub record LineRead (text : List ℕ) (at n : ℕ) (m : Line) (u v next : ℕ) : Type 0 where
  pub is : m ≡ an_edge u v (drop next text)
  pub later : at + 2 ≤ next
  pub within : next ≤ length text
  pub first : u < n
  pub second : v < n

same_u : {a b c x y z : ℕ} → edge_at a b c ≡ edge_at x y z → a ≡ x
same_u e = ap (λ (i : Edge). i.u) (same_Some _ _ e)

same_v : {a b c x y z : ℕ} → edge_at a b c ≡ edge_at x y z → b ≡ y
same_v e = ap (λ (i : Edge). i.v) (same_Some _ _ e)

same_next : {a b c x y z : ℕ} → edge_at a b c ≡ edge_at x y z → c ≡ z
same_next e = ap (λ (i : Edge). i.next) (same_Some _ _ e)

read_line : (text : List ℕ) (at n u v next : ℕ) (m : Line) → LineTold text at n m (edge_at u v next)
    → LineRead text at n m u v next
read_line text at n u v next no_line t = cc
read_line text at n u v next (an_edge x y s) t =
    let a : x ≡ u = sym (same_u t.is) in
    let b : y ≡ v = sym (same_v t.is) in
    let c : t.next ≡ next = sym (same_next t.is) in
    record {
      is = ap (λ i. an_edge i y s) a ∙ ap (λ i. an_edge u i s) b
          ∙ ap (an_edge u v) (t.rest ∙ ap (λ i. drop i text) c);
      later = omega (arith, t.later);
      within = omega (arith, t.within);
      first = omega (arith, t.first);
      second = omega (arith, t.second);
    }

pub told_line : {text : List ℕ} {at n : ℕ} {m : Line} {r : Option Edge} {e : Edge} → r ≡ Some e
    → LineTold text at n m r → LineRead text at n m e.u e.v e.next
told_line {text} {at} {n} {m} {r} {e} q t = read_line text at n e.u e.v e.next m (subst (LineTold text at n m) q t)

pub told_no_line : (text : List ℕ) (at n : ℕ) (m : Line) → LineTold text at n m None → m ≡ no_line
told_no_line text at n no_line t = refl
told_no_line text at n (an_edge x y s) t = let e = t.is in cc
