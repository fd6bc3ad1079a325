-- Trials in words: on a copy of the own row, in the row behind it, and of the two live vertices of a class.
use Rattle.std.proofs.Common.{◌≡◌, refl, sym, ap, ap₂, subst, ◌∙◌, Bool, true, false, not, ◌&&◌, ◌||◌, Option, Some, None, List, length, ◌⊎◌, inl, inr, ℕ, ◌+◌, ◌-◌, ◌*◌, ◌≤◌, ◌<◌, eqb, arith, eqb-true, eq-eqb}
use Rattle.std.specs.Bool.{then_some}
use mathlib.Core.Path.{fun_ext}
use native.Mathlib.Decide.{dec_lt}
use borrow.Rule.Slice.PartMut.{mid_of, put_mid}
use Rattle.sets.specs.Below.{count}
use Rattle.sets.specs.Sets.{Set, ◌⊆◌, ◌∩◌, ◌∪◌, ◌∖◌, just}
use Rattle.sets.proofs.Tests.{clash, bool, not_in}
use Rattle.sets.proofs.Below.{count_none}
use Rattle.sets.proofs.Sets.{meet_l, without_sub, count_without}
use Rattle.vset.specs.Words.{Least}
use Rattle.rows.specs.Rows.{set_at, row_at, Outside, Put}
use Rattle.vset.proofs.Count.{count_gap, count_next}
use Rattle.rows.proofs.Parts.{tail_set, tail_back}
use Rattle.rows.proofs.Rows.{row_member, above, below, outside_then, outside_wide}
use Rattle.cliques.specs.Graph.{Graph, At, size, two, lower, higher, is_open}
use Rattle.cliques.specs.Words.{own_row, behind, two_rows, four_rows, Node, Room}
use Rattle.cliques.proofs.Graph.{Pair, size_pos, size_without, without_at, two_pair, swap}
use Rattle.cliques.proofs.Words.{held_same, held_behind, node_less}
use Rattle.cliques.specs.declared.Place.{Place}
use Rattle.filters.specs.Failed.{alone, refuted, failed}
use Rattle.filters.specs.Filtered.{Filtered}
use Rattle.filters.specs.Step.{OnTheWay, Stepped, OneOfTwo, Stands, BothStand}
use Rattle.filters.specs.Unit.{unit}
use Rattle.filters.proofs.Failed.{Closed, refuted_out, failed_greatest}
use Rattle.filters.proofs.Masks.{seen_at, size_words, Counted, in_mask, counted_size}
use Rattle.filters.proofs.Promise.{way_start, way_in, way_shut, shut_start}
use Rattle.filters.proofs.Steps.{step_none, step_shut, step_says, step_over, steps_shut}
use Rattle.filters.proofs.Steps.{steps_then}
use Rattle.filters.proofs.Unit.{unit_greatest}

-- a alone in its class
alone_words : {G : Graph} {d : ℕ} {place : Place} {p : List ℕ} → Node G d place p → (c a : ℕ) → c < place.k
    → At G c a (own_row place p)
    → (own_row place p ∖ row_at p place.w place.masks c) ∪ just a ≡ alone G a (own_row place p)
unfolding ◌∩◌ ◌∪◌ ◌∖◌ just alone
alone_words {G} {d} {place} {p} N c a l h = fun_ext (λ u. bool (eqb u a) (same u) (other u))
  where
    L : Set
    L = own_row place p

    or_true : (x : Bool) → (x || true) ≡ true
    or_true true = refl
    or_true false = refl

    or_no : (x : Bool) → (x || false) ≡ x
    or_no true = refl
    or_no false = refl

    same : (u : ℕ) → eqb u a ≡ true → ((L u && not (row_at p place.w place.masks c u)) || eqb u a)
        ≡ (L u && (not (eqb (G.cls u) (G.cls a)) || eqb u a))
    same u e =
        let q = eqb-true u a e in
        let t : L u ≡ true = ap L q ∙ h.live in
        rw (e, t) (or_true (not (row_at p place.w place.masks c u))
        ∙ sym (or_true (not (eqb (G.cls u) (G.cls a)))))

    other : (u : ℕ) → eqb u a ≡ false → ((L u && not (row_at p place.w place.masks c u)) || eqb u a)
        ≡ (L u && (not (eqb (G.cls u) (G.cls a)) || eqb u a))
    other u e = rw e (or_no (L u && not (row_at p place.w place.masks c u)) ∙ bool (L u)
        (λ t. let i = (N.live u t).0 in
        ap (λ (b : Bool). L u && b) (ap not (N.held.mask c u l (omega (arith, N.held.size))
        ∙ ap (eqb (G.cls u)) (sym h.cl))
        ∙ sym (or_no (not (eqb (G.cls u) (G.cls a))))))
        (λ t. rw t refl))

alone_less : (G : Graph) (a : ℕ) (L : Set) → alone G a L ⊆ L
unfolding alone
alone_less G a L = meet_l L _

-- the two live vertices of a class
module _ (G : Graph) (c : ℕ) (L : Set) where
  pair_with : {a : ℕ} → two G c L ≡ true → At G c a L → (b : ℕ) × Pair G c a b L
  pair_with {a} t h = let p = two_pair G c L t in go p (p.only a h)
    where
      go : Pair G c (lower G c L) (higher G c L) L → (a ≡ lower G c L) ⊎ (a ≡ higher G c L) → (b : ℕ) × Pair G c a b L
      go p (inl e) = (higher G c L, subst (λ (x : ℕ). Pair G c x (higher G c L) L) (sym e) p)
      go p (inr e) = (lower G c L, subst (λ (x : ℕ). Pair G c x (lower G c L) L) (sym e) (swap G p))

  third : (a b v : ℕ) → two G c L ≡ true → At G c a L → At G c b L → (a ≡ b → ⊥) → At G c v L → (v ≡ a) ⊎ (v ≡ b)
  unfolding two
  third a b v t x y ne z = bool (eqb v a) (λ e. inl (eqb-true v a e))
      (λ e. bool (eqb v b) (λ f. inr (eqb-true v b f)) (λ f.
      let s = eqb-true (size G c L) 2 t in
      let i = size_without G c a L x in
      let j = size_without G c b (L ∖ just a) (without_at G y (λ q. ne (sym q))) in
      let k = size_pos G c v _ (without_at G (without_at G z (λ q. clash (eqb v a) (eq-eqb v a q) e))
      (λ q. clash (eqb v b) (eq-eqb v b q) f)) in
      absurd (omega arith)))

-- the strikes of a refuted trial are strikes of the filter
module _ (G : Graph) (d : ℕ) (L : Set) where
  trial_way : (c a : ℕ) → d ≤ c → c < G.k → two G c L ≡ true → At G c a L → refuted G d a L ≡ true
      → OnTheWay G (failed G) d L (unit G d (L ∖ just a))
  trial_way c a l r t h f = let p = pair_with G c L t h in
      way_in G (Closed G) (failed G) (failed_greatest G) d L _
      (λ v i. without_sub a L v ((unit_greatest G).strikes d (L ∖ just a) v i))
      (λ S o z s. (unit_greatest G).keeps d (L ∖ just a) S o z.0 (refuted_out G d c a p.0 L S l r p.1 f o z s))

-- `trial`: a was made alone in class c, on a copy behind the own row, and unit steps ran there
pub record Tested (a d : ℕ) (place : Place) (c m : ℕ) (p p₁ p₂ ys : List ℕ) (r : Bool) : Type 0 where
  pub room : Room (four_rows place) place (length p)
  pub from : d ≤ c
  pub upto : c < place.k
  pub mask : m ≡ place.masks + c * place.w
  pub which : OneOfTwo place.w place.masks c a p
  pub cut : Put (own_row place p ∖ set_at p place.w m) place.w place.w p p₁
  pub put : Put (set_at p₁ place.w place.w ∪ just a) place.w place.w p₁ p₂
  pub steps : Filtered unit (two_rows place) d (behind place) (mid_of place.w (length p₂ - place.w) p₂) ys r

module _ {a d : ℕ} {place : Place} {c m : ℕ} {p p₁ p₂ ys : List ℕ} {r : Bool}
    (t : Tested a d place c m p p₁ p₂ ys r) where
  open place use {w, masks}
  open t use {room, from, upto, mask, which, cut, put, steps}

  fits : w ≤ length p₂
  fits = omega (arith, t.room, cut.rest.len, put.rest.len)

  out₂ : Outside w (w + w) p p₂
  out₂ = outside_then cut.rest put.rest

  out₃ : Outside w (w + (w + w)) p (put_mid w (length p₂ - w) p₂ ys)
  out₃ = outside_then (outside_wide w (w + (w + w)) (omega arith) (omega arith) out₂)
      (tail_back w p₂ fits steps.rest)

  own₃ : own_row place (put_mid w (length p₂ - w) p₂ ys) ≡ own_row place p
  own₃ = below out₃ w 0 (omega arith)

  copy : (G : Graph) → Node G d place p → own_row place (mid_of w (length p₂ - w) p₂) ≡ alone G a (own_row place p)
  copy G N =
      let q : w + 0 ≡ w = omega arith in
      tail_set w p₂ fits w 0 ∙ ap (set_at p₂ w) q ∙ put.here
      ∙ ap (λ (X : Set). X ∪ just a) (cut.here ∙ ap (λ (i : ℕ). own_row place p ∖ set_at p w i) mask)
      ∙ alone_words N c a upto (seen_at N c a upto which.live)

  opens : (G : Graph) → Node G d place p → r ≡ is_open G d (unit G d (alone G a (own_row place p)))
  opens G N =
      let M : Node G d (behind place) (mid_of w (length p₂ - w) p₂) = record {
        held = held_behind fits (omega arith) (omega arith) (held_same out₂ (omega arith) (omega arith) N.held);
        live = λ v h. N.live v (alone_less G a (own_row place p) v (sym (ap (λ (X : Set). X v) (copy G N)) ∙ h));
      } in
      steps.opens G M ∙ ap (λ (X : Set). is_open G d (unit G d X)) (copy G N)

  pub trial_stands : r ≡ true → Stepped failed (λ G. Stands G d a) (w + w + w + w) d place p
      (put_mid w (length p₂ - w) p₂ ys) (Some false)
  unfolding refuted
  trial_stands o = record {
    rest = outside_wide 0 (w + w + w + w) (omega arith) (omega arith) out₃;
    shut = λ t. absurd cc;
    way = λ b t G N. rw own₃ (way_start G (Closed G) (failed G) (failed_greatest G) d (own_row place p));
    fewer = λ t. absurd cc;
    same = λ t. own₃;
    settled = λ t G N. rw (sym (opens G N) ∙ o) refl;
  }

  module _ {p₄ p₅ : List ℕ} {r₂ : Bool} (o : r ≡ false)
      (v : Put (own_row place (put_mid w (length p₂ - w) p₂ ys) ∖ just a) w 0 (put_mid w (length p₂ - w) p₂ ys) p₄)
      (u : Filtered unit (w + w) d place p₄ p₅ r₂) where
    own₄ : own_row place p₄ ≡ own_row place p ∖ just a
    own₄ = v.here ∙ ap (λ (X : Set). X ∖ just a) own₃

    out₄ : Outside 0 (w + w + w + w) p p₄
    out₄ = outside_then (outside_wide 0 (w + w + w + w) (omega arith) (omega arith) out₃)
        (outside_wide 0 (w + w + w + w) (omega arith) (omega arith) v.rest)

    out₅ : Outside 0 (w + w + w + w) p p₅
    out₅ = outside_then out₄ (outside_wide 0 (w + w + w + w) (omega arith) (omega arith) u.rest)

    node₄ : (G : Graph) → Node G d place p → Node G d place p₄
    node₄ G N = node_less out₄ room.masks_after room.graph_after
        (λ j h. without_sub a (own_row place p) j (sym (ap (λ (X : Set). X j) own₄) ∙ h)) N

    way₄ : (G : Graph) → Node G d place p
        → OnTheWay G (failed G) d (own_row place p) (unit G d (own_row place p ∖ just a))
    unfolding refuted two
    way₄ G N = trial_way G d (own_row place p) c a from (omega (arith, upto, N.held.classes))
        (eq-eqb (size G c (own_row place p)) 2 (sym (size_words N c upto room.wide) ∙ which.both))
        (seen_at N c a upto which.live)
        (not_in (sym (opens G N) ∙ o))

    trial_struck : r₂ ≡ true → (r₂ ≡ true → count (64 * w) (own_row place p₅) ≤ count (64 * w) (own_row place p₄))
        → Stepped failed (λ G. Stands G d a) (w + w + w + w) d place p p₅ (Some true)
    trial_struck i no_more = record {
      rest = out₅;
      shut = λ t. absurd cc;
      way = λ b t G N. rw (u.says G (node₄ G N) i, own₄) (way₄ G N);
      fewer = λ t. let h = meet_l (own_row place p) (row_at p w masks c) a which.live in
          omega (
            arith,
            no_more i,
            ap (count (64 * w)) own₄,
            count_without (64 * w) (own_row place p) a (row_member p w 0 a h) h,
          );
      same = λ t. absurd cc;
      settled = λ t. absurd cc;
    }

    trial_shut : r₂ ≡ false → Stepped failed (λ G. Stands G d a) (w + w + w + w) d place p p₅ None
    trial_shut i = step_shut failed Closed failed_greatest room out₅ (λ G N.
        way_shut G (Closed G) (failed G) (failed_greatest G) d _ _ (way₄ G N)
        (shut_start G (Closed G) (failed G) (failed_greatest G) d _
        (ap (λ (X : Set). is_open G d (unit G d X)) (sym own₄) ∙ sym (u.opens G (node₄ G N)) ∙ i)))

    pub trial_refuted : (r₂ ≡ true → count (64 * w) (own_row place p₅) ≤ count (64 * w) (own_row place p₄))
        → Stepped failed (λ G. Stands G d a) (w + w + w + w) d place p p₅ (then_some r₂ true)
    trial_refuted h = bool r₂ (λ i. rw i (trial_struck i h)) (λ i. rw i (trial_shut i))

-- `try_class`

least_one : {S : Set} {m a : ℕ} → 0 < count m S → Least S 0 m a → a < m
least_one {S} {m} {a} h L = go (dec_lt a m)
  where
    go : Dec (a < m) → a < m
    go (yes l) = l
    go (no l) = absurd (omega (arith, count_none m S (λ i b t. clash (S i) t (L.none i (omega arith) (omega arith)))))

least_two : {S : Set} {m a b : ℕ} → count m S ≡ 2 → Least S 0 m a → Least S (a + 1) m b → b < m
least_two {S} {m} {a} {b} h L M = go (dec_lt b m)
  where
    go : Dec (b < m) → b < m
    go (yes l) = l
    go (no l) =
        let i = least_one (omega arith) L in
        let z = count_none a S (λ i c t. clash (S i) t (L.none i (omega arith) c)) in
        absurd (omega (
          arith,
          count_gap S (a + 1) m (omega arith) (λ v c e. M.none v c (omega arith)),
          count_next S a (L.found i),
        ))

module _ {place : Place} {c m x : ℕ} {p : List ℕ} (C : Counted (four_rows place) place c m x p) where
  open place use {w, masks}

  pub class_none : {d : ℕ} → (x ≡ 2 → ⊥)
      → Stepped failed (λ G. BothStand G d c) (w + w + w + w) d place p p (Some false)
  unfolding two
  class_none h = step_none failed Closed failed_greatest C.room
      (λ G N t. absurd (h (sym (counted_size C N) ∙ eqb-true (size G c (own_row place p)) 2 t)))

  -- the lower is struck, or a class is empty
  pub lower_over : (a : ℕ) {d : ℕ} {q : List ℕ} {r : Option Bool} → (r ≡ Some false → ⊥)
      → Stepped failed (λ G. Stands G d a) (w + w + w + w) d place p q r
      → Stepped failed (λ G. BothStand G d c) (w + w + w + w) d place p q r
  lower_over a h S = step_over failed Closed failed_greatest C.room h S

  module _ (z : x ≡ 2) {a : ℕ} (L : Least (own_row place p ∩ set_at p w m) 0 (64 * w) a) where
    pub lower_inside : a < 64 * w
    lower_inside = least_one (omega (arith, C.is)) L

    pub lower_one : OneOfTwo w masks c a p
    lower_one = record {
      both = sym (ap (count (64 * w)) (in_mask C)) ∙ sym C.is ∙ z;
      live = sym (ap (λ (X : Set). X a) (in_mask C)) ∙ L.found lower_inside;
    }

    -- the lower stands, so that there are two still
    module _ {d : ℕ} {q : List ℕ} (S : Stepped failed (λ G. Stands G d a) (w + w + w + w) d place p q
        (Some false)) where
      same : own_row place q ∩ row_at q w masks c ≡ own_row place p ∩ row_at p w masks c
      same = ap₂ (λ (X Y : Set). X ∩ Y) (S.same refl)
          (above S.rest w (masks + c * w) (omega (arith, C.room.masks_after)))

      module _ {b : ℕ} (M : Least (own_row place q ∩ set_at q w m) (a + 1) (64 * w) b) where
        next : Least (own_row place p ∩ set_at p w m) (a + 1) (64 * w) b
        next = subst (λ (X : Set). Least X (a + 1) (64 * w) b) (ap (λ (i : ℕ). own_row place q ∩ set_at q w i) C.mask
            ∙ same ∙ sym (in_mask C)) M

        higher_here : (own_row place p ∩ row_at p w masks c) b ≡ true
        higher_here = sym (ap (λ (X : Set). X b) (in_mask C)) ∙ next.found (least_two (sym C.is ∙ z) L next)

        pub higher_one : OneOfTwo w masks c b q
        higher_one = record {
          both = ap (count (64 * w)) same ∙ lower_one.both;
          live = ap (λ (X : Set). X b) same ∙ higher_here;
        }

        both : (G : Graph) → Node G d place p → Stands G d a (own_row place p) × Stands G d b (own_row place p)
            → BothStand G d c (own_row place p)
        both G N h t v i = go (third G c (own_row place p) a b v t (seen_at N c a C.upto lower_one.live)
            (seen_at N c b C.upto higher_here) (λ q. omega (arith, M.after)) i)
          where
            go : (v ≡ a) ⊎ (v ≡ b) → Stands G d v (own_row place p)
            go (inl q) = rw q h.0
            go (inr q) = rw q h.1

        pub both_tried : {q₂ : List ℕ} (r : Option Bool) → Stepped failed (λ G. Stands G d b) (w + w + w + w) d place q q₂ r
            → Stepped failed (λ G. BothStand G d c) (w + w + w + w) d place p q₂ r
        both_tried None T = steps_shut failed Closed failed_greatest C.room false S T
        both_tried (Some i) T = step_says failed Closed failed_greatest C.room both
            (steps_then failed Closed failed_greatest C.room false S {Q = λ G L. Stands G d a L × Stands G d b L} i
            (λ G L u v. (u, v)) T)
