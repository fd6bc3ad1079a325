-- Laws of the pair test over the rules of a sheet: the rule of two links, where it stands, and that there is one at
-- most.
use Rattle.std.proofs.Common.{ℕ, zero, suc, ◌+◌, ◌*◌, ◌≤◌, ◌<◌, ◌≡◌, refl, sym, ◌∙◌, List, ◌⊎◌, inl, inr, Bool, true, false, not, ◌&&◌, ◌||◌, arith, add-one, eqb, ltb, leb, ℤ, eqb-true, ltb-true, eq-eqb, lt-ltb, le-leb}
use native.Mathlib.Decide.{dec_lt}
use borrow.Author.Tests.{lt-leb}
use Rattle.sets.specs.Below.{all}
use Rattle.sets.proofs.Below.{all_in}
use Rattle.sets.proofs.Tests.{clash, bool, is_false, below, and_l, and_r, and_in, or_l, or_r, or_case}
use Rattle.sheet_rows.specs.Rows.{freq, rule_a, rule_b, rule_kind, rule_value}
use Rattle.rule_sections.specs.Rules.{most_khz, before}
use Rattle.rule_sections.proofs.RuleRows.{After, rule_in_lem, rule_after}
use Rattle.spacing.specs.Spacing.{distance, zero_or_more, spare_without, in_range}
use Rattle.spacing.proofs.Spacing.{distance_turned, distance_most, without_allowed, sub_range, by_range}
use Rattle.pair_test.specs.Pairs.{rule_widths, of_links, spare_free, spare_row, spare}
use Rattle.pair_test.specs.Layers.{InLink}
use Rattle.pair_test.specs.Parts.{Parts}
use Rattle.pair_test.specs.Asked.{ComeBefore, Sought}
use Rattle.pair_test.specs.Range.{SpareRange}
use Rattle.pair_test.proofs.Laws.{parts_of, rule_links, widths_small, freq_small}

-- the links of a rule

pub of_in : (rs : List ℕ) (a b j : ℕ) → rule_a rs j ≡ a → rule_b rs j ≡ b → of_links rs a b j ≡ true
unfolding of_links
of_in rs a b j e f = and_in (eq-eqb (rule_a rs j) a e) (eq-eqb (rule_b rs j) b f)

pub of_out : (rs : List ℕ) (a b j : ℕ) → of_links rs a b j ≡ true → (rule_a rs j ≡ a) × (rule_b rs j ≡ b)
unfolding of_links
of_out rs a b j h = (
  eqb-true (rule_a rs j) a (and_l (eqb (rule_a rs j) a) _ h),
  eqb-true (rule_b rs j) b (and_r (eqb (rule_a rs j) a) _ h),
)

pub of_not : (rs : List ℕ) (a b j : ℕ) → (rule_a rs j ≡ a → rule_b rs j ≡ b → ⊥) → of_links rs a b j ≡ false
of_not rs a b j h = is_false _ (λ t. let o = of_out rs a b j t in h o.0 o.1)

-- the order of links

before_lower : (a b c d : ℕ) → a < c → before a b c d ≡ true
unfolding before
before_lower a b c d h = or_l (eqb a c && ltb b d) (lt-ltb a c h)

before_higher : (a b c d : ℕ) → a ≡ c → b < d → before a b c d ≡ true
unfolding before
before_higher a b c d e h = or_r (ltb a c) (and_in (eq-eqb a c e) (lt-ltb b d h))

before_out {ℓ} : {A : Type ℓ} (a b c d : ℕ) → before a b c d ≡ true → (a < c → A) → (a ≡ c → b < d → A) → A
unfolding before
before_out {A = A} a b c d h f g = go (or_case (ltb a c) (eqb a c && ltb b d) h)
  where
    go : (ltb a c ≡ true) ⊎ ((eqb a c && ltb b d) ≡ true) → A
    go (inl e) = f (ltb-true a c e)
    go (inr e) = g (eqb-true a c (and_l (eqb a c) (ltb b d) e)) (ltb-true b d (and_r (eqb a c) (ltb b d) e))

-- rules that come before two links come before any later ones
pub none_before : (rs : List ℕ) (a b : ℕ) → ComeBefore rs a b 0
none_before rs a b = record { each = λ i l. absurd (omega arith) }

pub before_more : {rs : List ℕ} {a b j : ℕ} → ComeBefore rs a b j → before (rule_a rs j) (rule_b rs j) a b ≡ true
    → ComeBefore rs a b (j + 1)
before_more {j = j} h e = record { each = λ i l. below i j (omega arith) (h.each i) (λ q. rw q e) }

pub before_link : {rs : List ℕ} {a b j : ℕ} (c d : ℕ) → a < c → ComeBefore rs a b j → ComeBefore rs c d j
before_link {rs} {a} {b} c d g h = record {
  each = λ i l. before_out (rule_a rs i) (rule_b rs i) a b (h.each i l)
      (λ x. before_lower (rule_a rs i) (rule_b rs i) c d (omega arith))
      (λ e x. before_lower (rule_a rs i) (rule_b rs i) c d (omega arith));
}

pub before_next : {rs : List ℕ} {a b j : ℕ} (d : ℕ) → b ≤ d → ComeBefore rs a b j → ComeBefore rs a d j
before_next {rs} {a} {b} d g h = record {
  each = λ i l. before_out (rule_a rs i) (rule_b rs i) a b (h.each i l)
      (λ x. before_lower (rule_a rs i) (rule_b rs i) a d x)
      (λ e x. before_higher (rule_a rs i) (rule_b rs i) a d e (omega arith));
}

-- the pair test

pub free_allowed : (fs : List ℕ) (u v : ℕ) → zero_or_more (spare_free fs u v) ≡ not (eqb (freq fs u) (freq fs v))
unfolding spare_free
free_allowed fs u v = without_allowed (freq fs u) (freq fs v)

free_turned : (fs : List ℕ) (u v : ℕ) → spare_free fs u v ≡ spare_free fs v u
unfolding spare_free
free_turned fs u v = rw (distance_turned (freq fs u) (freq fs v))

module _ (s fs rs ps : List ℕ) where
  -- what holds of all that the rules of the two links leave and, without one, of what is left then, holds of it
  pub spare_when : (P : ℤ → Type 0) (m a b u v : ℕ)
      → ((j : ℕ) → j < m → of_links rs a b j ≡ true → P (spare_row s fs rs ps j u v))
      → ((j : ℕ) → j < m → of_links rs b a j ≡ true → P (spare_row s fs rs ps j v u))
      → (((j : ℕ) → j < m → (of_links rs a b j ≡ false) × (of_links rs b a j ≡ false)) → P (spare_free fs u v))
      → P (spare s fs rs ps m a b u v)
  unfolding spare
  spare_when P zero a b u v f g h = h (λ j l. absurd (omega arith))
  spare_when P (suc m) a b u v f g h = bool (of_links rs a b m)
      (λ e. rw e (f m (omega arith) e))
      (λ e. bool (of_links rs b a m)
      (λ d. rw (e, d) (g m (omega arith) d))
      (λ d. rw (e, d) (spare_when P m a b u v (λ j l. f j (omega arith)) (λ j l. g j (omega arith))
      (λ n. h (λ j l. below j m l (n j) (λ q. rw q (e, d)))))))

  -- one rule more: of these links, of these links turned round, or of others
  pub spare_own : (m a b u v : ℕ) → of_links rs a b m ≡ true → spare s fs rs ps (m + 1) a b u v
      ≡ spare_row s fs rs ps m u v
  unfolding spare
  spare_own m a b u v h = rw (add-one, h)

  pub spare_turn : (m a b u v : ℕ) → of_links rs a b m ≡ false → of_links rs b a m ≡ true
      → spare s fs rs ps (m + 1) a b u v ≡ spare_row s fs rs ps m v u
  unfolding spare
  spare_turn m a b u v g h = rw (add-one, g, h)

  pub spare_past : (m a b u v : ℕ) → of_links rs a b m ≡ false → of_links rs b a m ≡ false
      → spare s fs rs ps (m + 1) a b u v ≡ spare s fs rs ps m a b u v
  unfolding spare
  spare_past m a b u v g h = rw (add-one, g, h)

  -- the same of the links turned round
  pub spare_turned : (m a b u v : ℕ) → (a ≡ b → ⊥) → spare s fs rs ps m a b u v ≡ spare s fs rs ps m b a v u
  unfolding spare
  spare_turned zero a b u v ne = free_turned fs u v
  spare_turned (suc m) a b u v ne = bool (of_links rs a b m)
      (λ e. bool (of_links rs b a m)
      (λ d. absurd (ne (omega (arith, of_out rs a b m e, of_out rs b a m d))))
      (λ d. rw (e, d)))
      (λ e. rw (e, spare_turned m a b u v ne))

module _ {s fs rs ps : List ℕ} {k n q t : ℕ} (P : Parts s fs rs ps k n q t) where
  -- a rule of links a < b is no rule of b and a
  pub not_turned : (a b i : ℕ) → a < b → i < q → of_links rs b a i ≡ true → ⊥
  not_turned a b i l h e = let o = rule_links P i h in omega (arith, of_out rs b a i e, o)

  -- two rules of the same links are one
  pub one_rule : (i j : ℕ) → i < q → j < q → rule_a rs i ≡ rule_a rs j → rule_b rs i ≡ rule_b rs j → i ≡ j
  one_rule i j a b e f = go (dec_lt i j) (dec_lt j i)
    where
      go : Dec (i < j) → Dec (j < i) → i ≡ j
      go (yes l) d = let r = rule_after rs k q t i j P.rules l b in let z = r.higher e in absurd (omega arith)
      go (no l) (yes d) = let r = rule_after rs k q t j i P.rules d a in let z = r.higher (sym e) in
          absurd (omega arith)
      go (no l) (no d) = omega arith

  -- until rule j its links have no rule
  pub spare_yet : (j u v : ℕ) → j < q → spare s fs rs ps j (rule_a rs j) (rule_b rs j) u v ≡ spare_free fs u v
  spare_yet j u v l =
      let o = rule_links P j l in
      spare_when s fs rs ps (λ z. z ≡ spare_free fs u v) j (rule_a rs j) (rule_b rs j) u v
      (λ i m e. let x = of_out rs (rule_a rs j) (rule_b rs j) i e in
      let z = one_rule i j (omega arith) l x.0 x.1 in absurd (omega arith))
      (λ i m e. absurd (not_turned (rule_a rs j) (rule_b rs j) i o.0 (omega arith) e))
      (λ n. refl)

  -- the range of the pair test
  apart_small : (a b u v : ℕ) → a < k → b < k → InLink s a u → InLink s b v
      → distance (freq fs u) (freq fs v) + 1 ≤ most_khz
  apart_small a b u v x y g h =
      distance_most (freq fs u) (freq fs v) most_khz (freq_small P a u x g) (freq_small P b v y h)

  row_range : (j u v : ℕ) → j < q → InLink s (rule_a rs j) u → InLink s (rule_b rs j) v
      → in_range (spare_row s fs rs ps j u v) ≡ true
  unfolding spare_row
  row_range j u v l g h =
      let o = rule_links P j l in
      let d = apart_small (rule_a rs j) (rule_b rs j) u v (omega arith) o.1 g h in
      by_range (rule_kind rs j) (rule_value rs j) (rule_widths s rs j) (distance (freq fs u) (freq fs v)) _
      (rule_in_lem rs k q t j P.rules l).plain (widths_small P j l) (omega arith)

  pub spare_range : (a b u v : ℕ) → a < k → b < k → InLink s a u → InLink s b v
      → in_range (spare s fs rs ps q a b u v) ≡ true
  unfolding spare_free spare_without
  spare_range a b u v x y g h = spare_when s fs rs ps (λ z. in_range z ≡ true) q a b u v
      (λ j l e. let o = of_out rs a b j e in row_range j u v l (rw o.0 g) (rw o.1 h))
      (λ j l e. let o = of_out rs b a j e in row_range j v u l (rw o.0 h) (rw o.1 g))
      (λ n. let d = apart_small a b u v x y g h in
      sub_range (2 * distance (freq fs u) (freq fs v)) 1 (omega arith) (omega arith))

  -- the rows rise, so that all up to one that comes before two links do
  pub before_upto : (a b j : ℕ) → j < q → before (rule_a rs j) (rule_b rs j) a b ≡ true → ComeBefore rs a b (j + 1)
  before_upto a b j l e = record { each = λ i h. below i j (omega arith) (earlier i) (λ p. rw p e) }
    where
      earlier : (i : ℕ) → i < j → before (rule_a rs i) (rule_b rs i) a b ≡ true
      earlier i h =
          let r = rule_after rs k q t i j P.rules h l in
          before_out (rule_a rs j) (rule_b rs j) a b e
          (λ x. before_lower (rule_a rs i) (rule_b rs i) a b (omega (arith, r.lower)))
          (λ p x. same r p x (dec_lt (rule_a rs i) (rule_a rs j)))
        where
          same : After rs i j → rule_a rs j ≡ a → rule_b rs j < b → Dec (rule_a rs i < rule_a rs j)
              → before (rule_a rs i) (rule_b rs i) a b ≡ true
          same r p x (yes d) = before_lower (rule_a rs i) (rule_b rs i) a b (omega arith)
          same r p x (no d) =
              let f : rule_a rs i ≡ rule_a rs j = omega (arith, r.lower) in
              before_higher (rule_a rs i) (rule_b rs i) a b (f ∙ p) (omega (arith, r.higher f))

  -- the rule of two links stands where it is sought
  module _ {a b j : ℕ} (S : Sought rs q a b j) (order : a < b) where
    sought_only : (i : ℕ) → i < q → of_links rs a b i ≡ true → i ≡ j
    sought_only i l h = let o = of_out rs a b i h in go o (dec_lt i j) (dec_lt j i)
      where
        go : (rule_a rs i ≡ a) × (rule_b rs i ≡ b) → Dec (i < j) → Dec (j < i) → i ≡ j
        go o (yes x) d = before_out (rule_a rs i) (rule_b rs i) a b (S.earlier.each i x)
            (λ y. absurd (omega (arith, o))) (λ e y. absurd (omega (arith, o)))
        go o (no x) (yes d) =
            let r = rule_after rs k q t j i P.rules d l in
            let z = S.here (omega arith) in
            late r.lower r.higher o z (dec_lt (rule_a rs j) a)
          where
            late : rule_a rs j ≤ rule_a rs i → (rule_a rs j ≡ rule_a rs i → rule_b rs j < rule_b rs i)
                → (rule_a rs i ≡ a) × (rule_b rs i ≡ b) → before (rule_a rs j) (rule_b rs j) a b ≡ false
                → Dec (rule_a rs j < a) → i ≡ j
            late lower higher o z (yes y) = clash _ (before_lower (rule_a rs j) (rule_b rs j) a b y) z
            late lower higher o z (no y) =
                let e : rule_a rs j ≡ rule_a rs i = omega (arith, o) in
                let f = higher e in
                clash _ (before_higher (rule_a rs j) (rule_b rs j) a b (omega (arith, o)) (omega (arith, o))) z
        go o (no x) (no d) = omega arith

    pub spare_rule : (u v : ℕ) → j < q → of_links rs a b j ≡ true
        → spare_row s fs rs ps j u v ≡ spare s fs rs ps q a b u v
    spare_rule u v l h = sym (spare_when s fs rs ps (λ z. z ≡ spare_row s fs rs ps j u v) q a b u v
        (λ i m e. let x = sought_only i m e in rw x refl)
        (λ i m e. absurd (not_turned a b i order m e))
        (λ n. clash _ h (n j l).0))

    pub spare_none : (u v : ℕ) → (j < q → of_links rs a b j ≡ false) → spare_free fs u v ≡ spare s fs rs ps q a b u v
    spare_none u v h = sym (spare_when s fs rs ps (λ z. z ≡ spare_free fs u v) q a b u v
        (λ i m e. let x = sought_only i m e in clash (of_links rs a b i) e (rw x (h (omega arith))))
        (λ i m e. absurd (not_turned a b i order m e))
        (λ n. refl))

-- the loop over the links above a: none of the numbers up to a is one, and each number past it is

pub none_higher : (a : ℕ) (p : ℕ → Bool) → all (a + 1) (λ b. leb b a || p b) ≡ true
none_higher a p = all_in (a + 1) _ (λ b l. or_l (p b) (le-leb b a (omega arith)))

pub higher_is : {a b : ℕ} {x : Bool} (r : Bool) → a < b → r ≡ x → r ≡ leb b a || x
higher_is {a} {b} r l e = rw (lt-leb b a l) e

-- the pair test of an accepted sheet is in its range
pub in_range_lem : SpareRange
in_range_lem = record {
  within = λ s a b u v t.
      spare_range (parts_of s t.accepted) a b u v t.link_a t.link_b t.in_a t.in_b;
}
