-- A class as a set of vertices: vertex by vertex, in a row of words, and against the row of a vertex.
use Rattle.std.proofs.Common.{◌≡◌, refl, sym, ap, ◌∙◌, Bool, true, false, cond, ◌&&◌, ◌||◌, List, ℕ, ◌+◌, ◌*◌, ◌≤◌, ◌<◌, arith, eqb, ltb, length, set, get_or-set_same, get_or-set_other, eqb-true, eq-eqb, ne_eqb, lt-ltb, le-ltb, ltb-true, ltb-false}
use mathlib.Core.Path.{fun_ext}
use native.Mathlib.Decide.{ℕ_discrete, dec_lt}
use borrow.Author.Tests.{eqb-false}
use Rattle.sets.specs.Sets.{Set, ◌∩◌, ◌∪◌, just, nothing}
use Rattle.sets.proofs.Tests.{clash, bool, is_false, and_l, and_r, and_in, or_r}
use Rattle.vset.specs.Words.{Emptiness}
use Rattle.rows.specs.Rows.{set_at, row_at, Outside, Begins, Put}
use Rattle.rows.proofs.Rows.{row_inside, inner_row, set_past, above, below, outside_then, outside_wide, outside_none}
use Rattle.partition.specs.Partition.{class_of, free}
use Rattle.partition.specs.Words.{Rows, members, Masks, Marked}
use Rattle.partition.proofs.Partition.{free_in, free_out}

or_false : (x : Bool) → x ≡ x || false
or_false true = refl
or_false false = refl

-- no vertex, and one vertex more

pub members_none : (cls : List ℕ) (c : ℕ) → members 0 cls c ≡ nothing
unfolding members nothing
members_none cls c = fun_ext (λ v. rw (le-ltb v 0 (omega arith)))

pub members_next : (v : ℕ) (cls : List ℕ) (d : ℕ) → members (v + 1) cls d
    ≡ cond (eqb d (class_of cls v)) (members v cls d ∪ just v) (members v cls d)
unfolding members ◌∪◌ just
members_next v cls d = go (eqb d (class_of cls v)) refl
  where
    at : (b : Bool) → eqb d (class_of cls v) ≡ b → (u : ℕ) → Dec (u < v) → Dec (u ≡ v)
        → (ltb u (v + 1) && eqb (class_of cls u) d) ≡ cond b ((ltb u v && eqb (class_of cls u) d) || eqb u v)
        (ltb u v && eqb (class_of cls u) d)
    at true e u (yes l) y = let z : u ≡ v → ⊥ = λ q. omega arith in
        rw (lt-ltb u (v + 1) (omega arith), lt-ltb u v l, ne_eqb u v z) (or_false _)
    at true e u (no g) (yes q) =
        let z : class_of cls u ≡ d = ap (class_of cls) q ∙ sym (eqb-true d (class_of cls v) e) in
        rw (lt-ltb u (v + 1) (omega arith), eq-eqb (class_of cls u) d z, eq-eqb u v q, le-ltb u v (omega arith))
    at true e u (no g) (no q) = rw (le-ltb u (v + 1) (omega arith), le-ltb u v (omega arith), ne_eqb u v q)
    at false e u (yes l) y = rw (lt-ltb u (v + 1) (omega arith), lt-ltb u v l)
    at false e u (no g) (yes q) =
        let z : class_of cls u ≡ d → ⊥ = λ r. eqb-false d (class_of cls v) e (sym r ∙ ap (class_of cls) q) in
        rw (lt-ltb u (v + 1) (omega arith), ne_eqb (class_of cls u) d z, le-ltb u v (omega arith))
    at false e u (no g) (no q) = rw (le-ltb u (v + 1) (omega arith), le-ltb u v (omega arith))

    go : (b : Bool) → eqb d (class_of cls v) ≡ b → members (v + 1) cls d
        ≡ cond b (members v cls d ∪ just v) (members v cls d)
    go true e = fun_ext (λ u. at true e u (dec_lt u v) (ℕ_discrete u v))
    go false e = fun_ext (λ u. at false e u (dec_lt u v) (ℕ_discrete u v))

-- a vertex put into class c
pub members_set : (n v c : ℕ) (cls : List ℕ) → v < n → length cls ≡ n
    → members n (set cls v c) c ≡ members n cls c ∪ just v
unfolding members ◌∪◌ just
members_set n v c cls h l = fun_ext (λ u. go u (ℕ_discrete u v))
  where
    go : (u : ℕ) → Dec (u ≡ v) → (ltb u n && eqb (class_of (set cls v c) u) c)
        ≡ ((ltb u n && eqb (class_of cls u) c) || eqb u v)
    go u (yes e) =
        let z : class_of (set cls v c) u ≡ c = ap (class_of (set cls v c)) e ∙ get_or-set_same cls v c 0 (omega arith) in
        and_in (lt-ltb u n (omega arith)) (eq-eqb (class_of (set cls v c) u) c z)
        ∙ sym (or_r (ltb u n && eqb (class_of cls u) c) (eq-eqb u v e))
    go u (no e) = rw (get_or-set_other cls v u c 0 e, ne_eqb u v e) (or_false _)

-- a vertex whose row, at a, has nothing in common with the class is adjacent to none in it
pub free_is : {adj : ℕ → ℕ → Bool} {w graph n a : ℕ} {p : List ℕ} {S : Set} {r : Bool} (k c : ℕ) (cls : List ℕ) (v : ℕ)
    → v < n → a ≡ graph + v * w
    → Rows adj w graph n p → S ≡ members n cls c → Emptiness (set_at p w a ∩ S) r → r ≡ free n k adj c cls v
unfolding members ◌∩◌
free_is {adj} {w} {graph} {n} {a} {p} {S} {r} k c cls v h q R e E =
    bool r (λ t. t ∙ sym (yes_is t)) (λ t. t ∙ sym (is_false _ (no_is t)))
  where
    here : (u : ℕ) → (set_at p w a ∩ S) u ≡ (ltb u n && adj v u) && (ltb u n && eqb (class_of cls u) c)
    here u = rw (q, e, R.edge v h u)

    yes_is : r ≡ true → free n k adj c cls v ≡ true
    yes_is t = free_in n k adj c cls v (λ u l q. is_false (adj v u) (λ a. clash _
        (here u ∙ and_in (and_in (lt-ltb u n l) a) (and_in (lt-ltb u n l) (eq-eqb _ _ q))) (E.empty t u)))

    no_is : r ≡ false → free n k adj c cls v ≡ true → ⊥
    no_is t f =
        let x = E.some t in
        let u = x.0 in
        let z = sym (here u) ∙ x.1 in
        let a = and_l (ltb u n && adj v u) _ z in
        let b = and_r (ltb u n && adj v u) (ltb u n && eqb (class_of cls u) c) z in
        clash (adj v u) (and_r (ltb u n) _ a) (free_out n k adj c cls v f u (ltb-true u n (and_l (ltb u n) _ a))
        (eqb-true _ _ (and_r (ltb u n) _ b)))

-- the masks of k classes: none marked, one vertex more

pub masks_none : {k w at : ℕ} {p p' : List ℕ} (cls : List ℕ) → Put nothing (k * w) at p p' → Masks 0 k cls w at p' p'
unfolding nothing
masks_none {k} {w} {at} {p} {p'} cls P = record {
  mask = λ c h. fun_ext (λ v. go c h v (dec_lt v (64 * w)))
      ∙ sym (members_none cls c);
  rest = outside_none _ _ p';
}
  where
    go : (c : ℕ) → c < k → (v : ℕ) → Dec (v < 64 * w) → row_at p' w at c v ≡ nothing v
    go c h v (yes l) = inner_row p' w (k * w) at (c * w) v (row_inside c k w h) l
        ∙ ap (λ (S : Set). S (64 * (c * w) + v)) P.here
    go c h v (no g) = set_past p' w (at + c * w) v (omega arith)

pub masks_more : {k w at v : ℕ} {p₀ p p' : List ℕ} (cls : List ℕ) → Masks v k cls w at p₀ p
    → Marked (class_of cls v) v k w at p p' → Masks (v + 1) k cls w at p₀ p'
masks_more {k} {w} {at} {v} {p₀} {p} {p'} cls M N = record {
  mask = λ c h. N.rows c h ∙ rw (M.mask c h) (sym (members_next v cls c));
  rest = outside_then M.rest N.rest;
}

pub masks_after : {n k w at : ℕ} {cls p q r : List ℕ} → Outside at (at + k * w) p q → Masks n k cls w at q r
    → Masks n k cls w at p r
masks_after O M = record { mask = M.mask; rest = outside_then O M.rest }

-- row c of k rows was written
pub marked : {k w at to c v : ℕ} {p p' : List ℕ} → c < k → Begins at w c k to → Put (set_at p w to ∪ just v) w to p p'
    → Marked c v k w at p p'
marked {k} {w} {at} {to} {c} {v} {p} {p'} h B P = record {
  rows = λ d l. go d l (ℕ_discrete d c);
  rest = outside_wide at (at + k * w) (omega (arith, B.here)) B.inside P.rest;
}
  where
    go : (d : ℕ) → d < k → Dec (d ≡ c) → row_at p' w at d ≡ cond (eqb d c) (row_at p w at d ∪ just v) (row_at p w at d)
    go d l (yes e) =
        let q : to ≡ at + d * w = B.here ∙ rw e in
        rw (eq-eqb d c e) (rw q at P.here)
    go d l (no e) = rw (ne_eqb d c e) (bool (ltb d c)
        (λ t. below P.rest w (at + d * w) (omega (arith, row_inside d c w (ltb-true d c t), B.here)))
        (λ t. let g : c < d = omega (arith, ltb-false d c t) in
        above P.rest w (at + d * w) (omega (arith, row_inside c d w g, B.here))))

-- rows that a write leaves as they were
pub rows_stay : {adj : ℕ → ℕ → Bool} {w graph n lo hi : ℕ} {p p' : List ℕ} → hi ≤ graph → Outside lo hi p p'
    → Rows adj w graph n p → Rows adj w graph n p'
rows_stay {adj} {w} {graph} {n} h O R = record {
  edge = λ u l v. ap (λ (S : Set). S v)
      (above O w (graph + u * w) (omega arith)) ∙ R.edge u l v;
}
