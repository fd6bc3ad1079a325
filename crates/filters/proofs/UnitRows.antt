-- Unit steps in words: the lone vertex of a class strikes, the classes are visited, and passes repeat.
use Rattle.std.proofs.Common.{◌≡◌, refl, sym, ap, ap₂, subst, ◌∙◌, Bool, true, false, not, ◌&&◌, ◌||◌, List, ℕ, ◌+◌, ◌*◌, ◌≤◌, ◌<◌, arith, eqb, ltb, eqb-true, eq-eqb, ltb-true, None, Some}
use mathlib.Core.Path.{fun_ext}
use Rattle.sets.specs.Below.{count}
use Rattle.sets.specs.Sets.{Set, ◌∩◌, ◌∪◌, ◌∖◌}
use Rattle.sets.proofs.Tests.{clash, bool, is_false}
use Rattle.sets.proofs.Below.{count_less}
use Rattle.sets.proofs.Sets.{meet_l, meet_r, meet_self}
use Rattle.vset.specs.Words.{Least, Emptiness}
use Rattle.rows.specs.Rows.{set_at, row_at, Outside, Put}
use Rattle.rows.proofs.Rows.{row_member, below, outside_none, outside_then, outside_wide}
use Rattle.cliques.specs.Graph.{Graph, size, some, lone, lower, is_open}
use Rattle.cliques.specs.Words.{own_row, two_rows, Node}
use Rattle.cliques.proofs.Graph.{size_pos, size_some, lower_at, lone_sole, open_in, open_out}
use Rattle.cliques.specs.declared.Place.{Place}
use Rattle.filters.specs.Step.{Stepped, StruckOthers, Calm, Rests}
use Rattle.filters.specs.Unit.{stays, strike, unit}
use Rattle.filters.proofs.Masks.{seen_at, at_seen, Counted, in_mask, counted_size}
use Rattle.filters.proofs.Promise.{way_start, way_in, way_ends, shut_start}
use Rattle.filters.proofs.Steps.{step_none, step_shut, ClassesTo}
use Rattle.filters.proofs.Unit.{UnitClosed, unit_greatest, strike_keeps, settled_closed}

-- sets

cut_out : (S T : Set) (u : ℕ) → (S ∖ T) u ≡ true → (S u ≡ true) × (T u ≡ false)
unfolding ◌∖◌
cut_out S T u = go (S u) (T u)
  where
    go : (a b : Bool) → (a && not b) ≡ true → (a ≡ true) × (b ≡ false)
    go true true h = (refl, sym h)
    go true false h = (refl, refl)
    go false b h = (h, clash false h refl)

cut_none : (S T : Set) → ((u : ℕ) → (S ∖ T) u ≡ false) → S ≡ S ∩ T
unfolding ◌∖◌ ◌∩◌
cut_none S T f = fun_ext (λ u. go (S u) (T u) (f u))
  where
    go : (a b : Bool) → (a && not b) ≡ false → a ≡ (a && b)
    go true true h = refl
    go true false h = h
    go false b h = refl

cut_cut : (S T : Set) → S ∖ (S ∖ T) ≡ S ∩ T
unfolding ◌∖◌ ◌∩◌
cut_cut S T = fun_ext (λ u. go (S u) (T u))
  where
    go : (a b : Bool) → (a && not (a && not b)) ≡ (a && b)
    go true true = refl
    go true false = refl
    go false b = refl

-- `strike_others`
module _ (v : ℕ) {w m graph g : ℕ} {p p₁ p₂ : List ℕ} {r : Bool} (A : w + w ≤ m) (B : w + w ≤ graph)
    (e : g ≡ graph + v * w)
    (x : Put (set_at p w g ∪ set_at p w m) w w p p₁) (y : Put (set_at p₁ w 0 ∖ set_at p₁ w w) w w p₁ p₂)
    (z : Emptiness (set_at p₂ w w ∩ set_at p₂ w w) r) where
  own₂ : set_at p₂ w 0 ≡ set_at p w 0
  own₂ = below y.rest w 0 (omega arith) ∙ below x.rest w 0 (omega arith)

  far : set_at p₂ w w ≡ set_at p w 0 ∖ (row_at p w graph v ∪ set_at p w m)
  far = y.here ∙ ap₂ (λ (X Y : Set). X ∖ Y) (below x.rest w 0 (omega arith)) (x.here
      ∙ ap (λ (i : ℕ). set_at p w i ∪ set_at p w m) e)

  far_twice : set_at p₂ w w ∩ set_at p₂ w w ≡ set_at p w 0 ∖ (row_at p w graph v ∪ set_at p w m)
  far_twice = meet_self (set_at p₂ w w) ∙ far

  out₂ : Outside 0 (w + w) p p₂
  out₂ = outside_then (outside_wide 0 (w + w) (omega arith) (omega arith) x.rest)
      (outside_wide 0 (w + w) (omega arith) (omega arith) y.rest)

  pub others_none : r ≡ true → StruckOthers w m graph v p p₂ false
  others_none h = record {
    rest = out₂;
    own = own₂ ∙ cut_none (set_at p w 0) (row_at p w graph v ∪ set_at p w m) (λ u. sym (ap (λ (X : Set). X u) far_twice)
        ∙ z.empty h u);
    fewer = λ t. clash false t refl;
    same = λ _. own₂;
  }

  pub others_some : {p₃ : List ℕ} → r ≡ false → Put (set_at p₂ w 0 ∖ set_at p₂ w w) w 0 p₂ p₃
      → StruckOthers w m graph v p p₃ true
  others_some {p₃} h q =
      let own₃ : set_at p₃ w 0 ≡ set_at p w 0 ∩ (row_at p w graph v ∪ set_at p w m) =
      q.here ∙ ap₂ (λ (X Y : Set). X ∖ Y) own₂ far ∙ cut_cut (set_at p w 0) (row_at p w graph v ∪ set_at p w m) in
      record {
        rest = outside_then out₂ (outside_wide 0 (w + w) (omega arith) (omega arith) q.rest);
        own = own₃;
        fewer = λ _. less own₃;
        same = λ t. clash true refl t;
      }
    where
      less : set_at p₃ w 0 ≡ set_at p w 0 ∩ (row_at p w graph v ∪ set_at p w m)
          → count (64 * w) (set_at p₃ w 0) < count (64 * w) (set_at p w 0)
      less own₃ =
          let s = z.some h in
          let o = cut_out (set_at p w 0) (row_at p w graph v ∪ set_at p w m) s.0
          (sym (ap (λ (X : Set). X s.0) far_twice) ∙ s.1) in
          count_less (64 * w) (set_at p₃ w 0) (set_at p w 0)
          (λ i l t. meet_l (set_at p w 0) (row_at p w graph v ∪ set_at p w m) i (sym (ap (λ (X : Set). X i) own₃) ∙ t))
          s.0
          (row_member p w 0 s.0 o.0)
          (is_false _ (λ t. clash _ (meet_r (set_at p w 0) (row_at p w graph v ∪ set_at p w m) s.0
          (sym (ap (λ (X : Set). X s.0) own₃) ∙ t)) o.1))
          o.0

-- `visit`
module _ {place : Place} {c m live : ℕ} {p : List ℕ} (C : Counted (two_rows place) place c m live p) (d : ℕ)
    (f : d ≤ c) where
  open place use {w, graph, n}

  pub visit_shut : live ≡ 0 → Stepped unit (λ G. Calm G d c) (w + w) d place p p None
  visit_shut z = step_shut unit UnitClosed unit_greatest C.room (outside_none _ _ p)
      (λ G N. shut_start G (UnitClosed G) (unit G) (unit_greatest G) d (own_row place p)
      (is_false _ (λ o. let t = lower_at G c (own_row place p)
      (open_out G d (own_row place p) o c f (omega (arith, N.held.classes, C.upto))) in
      absurd (omega (arith, size_pos G c _ (own_row place p) t, counted_size C N)))))

  pub visit_more : 1 < live → Stepped unit (λ G. Calm G d c) (w + w) d place p p (Some false)
  unfolding lone
  visit_more z = step_none unit UnitClosed unit_greatest C.room (λ G N. record {
    live = size_some G c (own_row place p) (omega (arith, counted_size C N));
    still = λ t. absurd (omega (arith, eqb-true (size G c (own_row place p)) 1 t, counted_size C N));
  })

  module _ {v : ℕ} (z : live ≡ 1) (y : Least (own_row place p ∩ set_at p w m) 0 (64 * w) v) where
    has_one : (G : Graph) → Node G d place p → some G c (own_row place p) ≡ true
    has_one G N = size_some G c (own_row place p) (omega (arith, counted_size C N))

    is_lone : (G : Graph) → Node G d place p → lone G c (own_row place p) ≡ true
    unfolding lone
    is_lone G N = eq-eqb (size G c (own_row place p)) 1 (counted_size C N ∙ z)

    pub visit_none : n ≤ v → Stepped unit (λ G. Calm G d c) (w + w) d place p p (Some false)
    visit_none h = step_none unit UnitClosed unit_greatest C.room (λ G N.
        let t = lower_at G c (own_row place p) (has_one G N) in
        let i = lower G c (own_row place p) in
        let q : i < v = omega (arith, t.lt, N.held.size) in
        clash ((own_row place p ∩ set_at p w m) i) (ap (λ (X : Set). X i) (in_mask C) ∙ at_seen N c i C.upto t)
        (y.none i (omega arith) q))

    pub visit_struck : {q : List ℕ} {r : Bool} → v < n → StruckOthers w m graph v p q r
        → Stepped unit (λ G. Calm G d c) (w + w) d place p q (Some r)
    unfolding strike stays ◌∩◌ ◌∪◌
    visit_struck {q} {r} h S = record {
      rest = S.rest;
      shut = λ t. absurd cc;
      way = λ b t G N. way_in G (UnitClosed G) (unit G) (unit_greatest G) d (own_row place p) (own_row place q)
          (λ u i. meet_l (own_row place p) (row_at p w graph v ∪ set_at p w m) u
          (sym (ap (λ (X : Set). X u) S.own) ∙ i))
          (λ T o u i. rw (struck G N) (strike_keeps G d c (own_row place p) T o u i f
          (omega (arith, N.held.classes, C.upto)) (is_lone G N)));
      fewer = λ t. S.fewer cc;
      same = λ t. S.same cc;
      settled = λ t G N. record {
        live = has_one G N;
        still = λ _ u i. sym (ap (λ (X : Set). X u) (struck G N))
            ∙ ap (λ (X : Set). X u) (S.same cc) ∙ i;
      };
    }
      where
        or_no : (a b z : Bool) → z ≡ false → (a || b) ≡ (a || (b || z))
        or_no true b z h = refl
        or_no false true z h = refl
        or_no false false z h = sym h

        first : (G : Graph) → Node G d place p → v ≡ lower G c (own_row place p)
        first G N = (lone_sole G c (own_row place p) (is_lone G N)).only v
            (seen_at N c v C.upto (sym (ap (λ (X : Set). X v) (in_mask C))
            ∙ y.found (omega (arith, C.room.wide))))

        inn : (G : Graph) → Node G d place p → (u : ℕ) → own_row place p u ≡ true
            → (own_row place p u && (row_at p w graph v u || set_at p w m u))
            ≡ (own_row place p u && (G.adj (lower G c (own_row place p)) u
            || (eqb (G.cls u) c || ltb (G.cls u) d)))
        inn G N u t =
            let r = N.live u t in
            let i : u < n = omega (arith, N.held.size) in
            ap (λ (y : Bool). own_row place p u && y) (ap₂ (λ (a b : Bool). a || b) (N.held.edge v u h i
            ∙ ap (λ (j : ℕ). G.adj j u) (first G N))
            (ap (λ (j : ℕ). set_at p w j u) C.mask ∙ N.held.mask c u C.upto i)
            ∙ or_no (G.adj (lower G c (own_row place p)) u) (eqb (G.cls u) c) (ltb (G.cls u) d)
            (is_false (ltb (G.cls u) d) (λ j. omega (arith, ltb-true (G.cls u) d j))))

        struck : (G : Graph) → Node G d place p → own_row place q ≡ strike G d c (own_row place p)
        struck G N = S.own ∙ fun_ext (λ u. bool (own_row place p u) (inn G N u) (λ t. rw t refl))

-- `pass`: all remaining classes were visited
pub calm_rests : (d : ℕ) (G : Graph) (L : Set) → ClassesTo (λ c G. Calm G d c) d G.k G L → Rests G d L
calm_rests d G L f =
    let o = open_in G d L (λ x a b. (f x a b).live) in
    record {
      opens = o;
      still = way_ends G (UnitClosed G) (unit G) (unit_greatest G) d L L
          (way_start G (UnitClosed G) (unit G) (unit_greatest G) d L) o
          (settled_closed G d L (λ x a b. (f x a b).still));
    }

-- `unit_steps`: where a pass struck nothing, the own row is unit-closed
pub rests_closed : (d : ℕ) (G : Graph) (L : Set) → Rests G d L → (is_open G d L ≡ true) × UnitClosed G d L
rests_closed d G L r =
    let o = ap (is_open G d) r.still ∙ r.opens in
    (r.opens, subst (λ (M : Set). UnitClosed G d M) r.still ((unit_greatest G).closed d L o))
