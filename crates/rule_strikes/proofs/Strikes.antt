-- Laws of what a rule row leaves: the partners by its pairs, a row under the rule, and rows written one after another.
use Rattle.std.proofs.Common.{◌≡◌, refl, sym, ap, ◌∙◌, Bool, true, false, not, cond, ◌&&◌, ◌||◌, List, ℕ, ◌+◌, ◌-◌, ◌*◌, ◌≤◌, ◌<◌, arith, add-one, eqb-true, eq-eqb, ne_eqb, leb-true, le-leb, eqb, leb, length}
use mathlib.Core.Path.{fun_ext}
use native.Mathlib.Decide.{dec_lt}
use Rattle.sets.specs.Below.{any, first as lowest}
use Rattle.sets.specs.Sets.{Set, ◌⊆◌, ◌∩◌, ◌∪◌, ◌∖◌, nothing, just}
use Rattle.sets.proofs.Tests.{iff, and_l, and_r, and_in, and_false}
use Rattle.sets.proofs.Below.{first_lt, first_is}
use Rattle.sets.proofs.Sets.{join_assoc}
use Rattle.sheet_rows.specs.Rows.{freq, pair_first, pair_second}
use Rattle.pair_test.specs.Pairs.{same_pair, lists_pair}
use Rattle.rows.specs.Rows.{set_at, row_at, Outside, Put}
use Rattle.rows.proofs.Rows.{row_inside, outside_none, outside_then, outside_wide, above, below}
use Rattle.rule_strikes.specs.declared.Side.{Side}
use Rattle.rule_strikes.specs.Strikes.{stretch, own_place, other_place, partner, partners, clashing, allowed}
use Rattle.rule_strikes.specs.Strikes.{under_rule, PairsFit, Rewritten}
use Rattle.rule_strikes.specs.Rows.{RowsFit}
use Rattle.rule_strikes.proofs.Spans.{stretch_in, none_join, join_none, cut_part, meet_inside, put_none, put_as}
use Rattle.rule_strikes.proofs.Spans.{put_then}

-- partners

turned_and : (a b : Bool) → a && b ≡ b && a
turned_and true true = refl
turned_and true false = refl
turned_and false true = refl
turned_and false false = refl

-- the other position is the own one, seen from the other link
pub own_turned : (ps : List ℕ) (turned : Bool) (i : ℕ) → own_place ps (not turned) i ≡ other_place ps turned i
unfolding own_place other_place
own_turned ps true i = refl
own_turned ps false i = refl

-- pair row i has the positions x and y, each in its link's list
paired : List ℕ → Bool → ℕ → ℕ → ℕ → Bool
paired ps turned x y i = cond turned (same_pair ps y x i) (same_pair ps x y i)

paired_is : (ps : List ℕ) (turned : Bool) (x y i : ℕ) → paired ps turned x y i ≡ eqb (own_place ps turned i) x
    && eqb (other_place ps turned i) y
unfolding paired same_pair own_place other_place
paired_is ps true x y i = turned_and (eqb (pair_first ps i) y) (eqb (pair_second ps i) x)
paired_is ps false x y i = refl

partner_of : (ps : List ℕ) (turned : Bool) (first x i v : ℕ)
    → partner ps turned first x i v ≡ leb first v && (eqb (own_place ps turned i) x
    && eqb (other_place ps turned i) (v - first))
unfolding partner paired
partner_of ps turned first x i v = ap (λ b. leb first v && b) (paired_is ps turned x (v - first) i)

pub partner_is : (ps : List ℕ) (turned : Bool) (first x i : ℕ) → own_place ps turned i ≡ x
    → partner ps turned first x i ≡ just (first + other_place ps turned i)
unfolding just
partner_is ps turned first x i e = fun_ext (λ v. partner_of ps turned first x i v
    ∙ rw (eq-eqb (own_place ps turned i) x e) (iff _ _
    (λ t. let l = leb-true first v (and_l (leb first v) _ t) in
    let q = eqb-true (other_place ps turned i) (v - first) (and_r (leb first v) _ t) in
    eq-eqb v (first + other_place ps turned i) (omega arith))
    (λ t. let q = eqb-true v (first + other_place ps turned i) t in
    and_in (le-leb first v (omega arith)) (eq-eqb (other_place ps turned i) (v - first) (omega arith)))))

pub partner_no : (ps : List ℕ) (turned : Bool) (first x i : ℕ) → (own_place ps turned i ≡ x → ⊥)
    → partner ps turned first x i ≡ nothing
unfolding nothing
partner_no ps turned first x i e = fun_ext (λ v. partner_of ps turned first x i v
    ∙ rw (ne_eqb (own_place ps turned i) x e) (and_false (leb first v) false refl))

partners_none : (ps : List ℕ) (turned : Bool) (first x base : ℕ) → partners ps turned first x base 0 ≡ nothing
unfolding partners lists_pair any nothing
partners_none ps turned first x base = fun_ext (λ v. and_false (leb first v) _ (no turned))
  where
    no : (b : Bool) → cond b false false ≡ false
    no true = refl
    no false = refl

partners_more : (ps : List ℕ) (turned : Bool) (first x base i : ℕ)
    → partners ps turned first x base (i + 1) ≡ partners ps turned first x base i ∪ partner ps turned first x (base + i)
unfolding partners partner lists_pair any ◌∪◌
partners_more ps turned first x base i = fun_ext (λ v. rw add-one (go turned (leb first v) _ _ _ _))
  where
    go : (b l a c d e : Bool) → l && cond b (a || c) (d || e) ≡ (l && cond b a d) || (l && cond b c e)
    go true true a c d e = refl
    go false true a c d e = refl
    go b false a c d e = refl

-- one pair row: its partner is added to the row, or it has none for x
pub partner_put : {w to : ℕ} {p q : List ℕ} (ps : List ℕ) (turned : Bool) (first x i : ℕ) → own_place ps turned i ≡ x
    → Put (set_at p w to ∪ just (first + other_place ps turned i)) w to p q
    → Put (set_at p w to ∪ partner ps turned first x i) w to p q
partner_put {w} {to} {p} ps turned first x i e P = put_as
    (ap (λ (X : Set). set_at p w to ∪ X) (sym (partner_is ps turned first x i e))) P

pub partner_left : (w to : ℕ) (p ps : List ℕ) (turned : Bool) (first x i : ℕ) → (own_place ps turned i ≡ x → ⊥)
    → Put (set_at p w to ∪ partner ps turned first x i) w to p p
partner_left w to p ps turned first x i e =
    put_as (sym (ap (λ (X : Set). set_at p w to ∪ X) (partner_no ps turned first x i e) ∙ join_none (set_at p w to)))
    (put_none w to p)

-- the loop over the pair rows: none yet, and one more
pub partners_put_none : (w to : ℕ) (p ps : List ℕ) (turned : Bool) (first x base : ℕ)
    → Put (set_at p w to ∪ partners ps turned first x base 0) w to p p
partners_put_none w to p ps turned first x base =
    put_as (sym (ap (λ (X : Set). set_at p w to ∪ X) (partners_none ps turned first x base) ∙ join_none (set_at p w to)))
    (put_none w to p)

pub partners_put_more : {w to : ℕ} {p q r : List ℕ} (S : Set) (ps : List ℕ) (turned : Bool) (first x base i : ℕ)
    → Put (S ∪ partners ps turned first x base i) w to p q
    → Put (set_at q w to ∪ partner ps turned first x (base + i)) w to q r
    → Put (S ∪ partners ps turned first x base (i + 1)) w to p r
partners_put_more S ps turned first x base i P Q = put_then (λ T. T ∪ partner ps turned first x (base + i)) P Q
    (join_assoc S (partners ps turned first x base i) (partner ps turned first x (base + i))
    ∙ ap (λ (X : Set). S ∪ X) (sym (partners_more ps turned first x base i)))

-- a pair row that lists the two positions
listing : (ps : List ℕ) (base m x y : ℕ) → lists_pair ps base m x y ≡ true
    → (i : ℕ) × (i < m) × (same_pair ps x y (base + i) ≡ true)
unfolding lists_pair
listing ps base m x y t =
    let p : ℕ → Bool = λ i. same_pair ps x y (base + i) in
    (lowest m p, first_lt m p t, first_is m p t)

other_of : (ps : List ℕ) (turned : Bool) (x y base m : ℕ)
    → cond turned (lists_pair ps base m y x) (lists_pair ps base m x y) ≡ true
    → (i : ℕ) × (i < m) × (other_place ps turned (base + i) ≡ y)
unfolding other_place same_pair
other_of ps true x y base m t =
    let o = listing ps base m y x t in
    (o.0, o.1, eqb-true (pair_first ps (base + o.0)) y (and_l (eqb (pair_first ps (base + o.0)) y) _ o.2))
other_of ps false x y base m t =
    let o = listing ps base m x y t in
    (o.0, o.1, eqb-true (pair_second ps (base + o.0)) y (and_r (eqb (pair_first ps (base + o.0)) x) _ o.2))

-- partners are vertices of the other link
pub partners_in : (ps : List ℕ) (turned : Bool) (first x base m end : ℕ)
    → ((i : ℕ) → i < m → first + other_place ps turned (base + i) < end)
    → partners ps turned first x base m ⊆ stretch first end
unfolding partners
partners_in ps turned first x base m end h v e =
    let l = leb-true first v (and_l (leb first v) _ e) in
    let o = other_of ps turned x (v - first) base m (and_r (leb first v) _ e) in
    stretch_in first end v l (omega (arith, h o.0 o.1, o.2))

-- a stretch put into an empty row
pub stretch_put : {w to : ℕ} {p q r : List ℕ} (a b : ℕ) → Put nothing w to p q
    → Put (set_at q w to ∪ stretch a b) w to q r → Put (stretch a b) w to p r
stretch_put a b P Q = put_then (λ S. S ∪ stretch a b) P Q (none_join (stretch a b))

-- a row under a rule, by its kind
pub ruled_listed : (fs ps : List ℕ) (s : Side) (u : ℕ) (S : Set) → s.kind ≡ 3 → PairsFit ps s
    → (S ∖ stretch s.first s.end) ∪ partners ps s.turned s.first (u - s.from) s.value s.count
    ≡ under_rule fs ps s u S
unfolding allowed
ruled_listed fs ps s u S e f = rw (eq-eqb s.kind 3 e)
    (ap (λ (X : Set). (S ∖ stretch s.first s.end) ∪ X)
    (meet_inside (stretch s.first s.end) _
    (partners_in ps s.turned s.first (u - s.from) s.value s.count s.end (λ i h. (f i h).1))))

pub ruled_plain : (fs ps : List ℕ) (s : Side) (u : ℕ) (S : Set) → (s.kind ≡ 3 → ⊥) → allowed fs ps s u ⊆ S
    → S ∖ (stretch s.first s.end ∩ clashing fs s (freq fs u)) ≡ under_rule fs ps s u S
unfolding allowed
ruled_plain fs ps s u S e f =
    let g = rw (ne_eqb s.kind 3 e) at f in
    rw (ne_eqb s.kind 3 e) (cut_part S _ _ g)

-- a row written leaves the others
pub others_same : {w : ℕ} {S : Set} {p q : List ℕ} (graph u at : ℕ) → at ≡ graph + u * w → Put S w at p q → (x : ℕ)
    → (x ≡ u → ⊥)
    → row_at q w graph x ≡ row_at p w graph x
others_same {w} {S} {p} {q} graph u at here P x ne = go (dec_lt x u) (dec_lt u x)
  where
    go : Dec (x < u) → Dec (u < x) → row_at q w graph x ≡ row_at p w graph x
    go (yes d) e = let i = row_inside x u w d in below P.rest w (graph + x * w) (omega arith)
    go (no d) (yes e) = let i = row_inside u x w e in above P.rest w (graph + x * w) (omega arith)
    go (no d) (no e) = absurd (ne (omega arith))

-- rows written one after another

module _ (f : ℕ → Set → Set) (w graph n : ℕ) where
  pub rows_none : (lo : ℕ) (p : List ℕ) → Rewritten f lo lo w graph n p p
  rows_none lo p = record { rows = λ x a b. absurd (omega arith); others = λ x l h. refl; rest = outside_none _ _ p }

  pub rows_join : {p q r : List ℕ} (lo m hi : ℕ) → lo ≤ m → m ≤ hi → hi ≤ n → Rewritten f lo m w graph n p q
      → Rewritten f m hi w graph n q r
      → Rewritten f lo hi w graph n p r
  rows_join {p} {q} {r} lo m hi a b c P Q = record {
    rows = λ x l h. go x l h (dec_lt x m);
    others = λ x l h. Q.others x l (λ d e. h (omega arith) e) ∙ P.others x l (λ d e. h d (omega arith));
    rest = outside_then P.rest Q.rest;
  }
    where
      go : (x : ℕ) → lo ≤ x → x < hi → Dec (x < m) → row_at r w graph x ≡ f x (row_at p w graph x)
      go x l h (yes e) = Q.others x (omega arith) (λ d g. omega arith) ∙ P.rows x l e
      go x l h (no e) = Q.rows x (omega arith) h ∙ ap (f x) (P.others x (omega arith) (λ d g. omega arith))

  pub rows_as : {p q : List ℕ} (g : ℕ → Set → Set) {lo hi : ℕ}
      → ((x : ℕ) → lo ≤ x → x < hi → f x (row_at p w graph x) ≡ g x (row_at p w graph x))
      → Rewritten f lo hi w graph n p q → Rewritten g lo hi w graph n p q
  rows_as g e R = record { rows = λ x a b. R.rows x a b ∙ e x a b; others = R.others; rest = R.rest }

  -- one row written
  module _ (u at : ℕ) (b : u < n) (here : at ≡ graph + u * w) where
    row_rest : {S : Set} {p q : List ℕ} → Put S w at p q → Outside graph (graph + n * w) p q
    row_rest P = let i = row_inside u n w b in outside_wide graph (graph + n * w) (omega arith) (omega arith) P.rest

    pub row_written : {p q : List ℕ} → Put (f u (set_at p w at)) w at p q → Rewritten f u (u + 1) w graph n p q
    row_written {p} {q} P = record {
      rows = λ x d e. let i : x ≡ u = omega arith in let P' : set_at q w (graph + u * w)
          ≡ f u (set_at p w (graph + u * w)) = rw here at P.here in rw i P';
      others = λ x l h. others_same graph u at here P x (λ e. h (omega arith) (omega arith));
      rest = row_rest P;
    }

-- the words were written and are as many
pub fit_same : {w graph n lo hi : ℕ} {p q : List ℕ} → RowsFit w graph n (length p) → Outside lo hi p q
    → RowsFit w graph n (length q)
fit_same F x = record { wide = F.wide; small = F.small; inside = rw x.len F.inside }
