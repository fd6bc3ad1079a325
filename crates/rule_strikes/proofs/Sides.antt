-- Laws of the two sides of a rule row: what it allows is what the pair test says, and what the strikes ask holds of an
-- accepted sheet.
use Rattle.std.proofs.Common.{◌≡◌, refl, sym, ap, ◌∙◌, Bool, true, false, not, ◌&&◌, List, ℕ, ◌+◌, ◌-◌, ◌*◌, ◌^◌, ◌≤◌, ◌<◌, arith, eqb, ltb, length, eqb-true, ltb-true, eq-eqb, le-leb}
use Rattle.sets.specs.Sets.{◌∩◌, ◌∖◌}
use Rattle.sets.proofs.Tests.{clash, bool, is_false, not_in, and_l, and_r}
use Rattle.sets.proofs.Below.{all_out}
use Rattle.sheet_rows.specs.Rows.{link_first, link_count, link_width, freq, rule_a, rule_b}
use Rattle.sheet_rows.specs.Rows.{rule_kind, rule_count, rule_value, pair_first, pair_second}
use Rattle.rule_sections.specs.Rules.{listed, pair_ok, rule_pairs_ok, pairs_ok}
use Rattle.sheet.proofs.Links.{link_in}
use Rattle.rule_sections.proofs.RuleRows.{rule_in_lem}
use Rattle.spacing.specs.Spacing.{distance, zero_or_more, spare_by}
use Rattle.pair_test.specs.Pairs.{lists_pair, rule_widths, spare_free, spare_row}
use Rattle.pair_test.specs.Parts.{Parts}
use Rattle.pair_test.proofs.Laws.{rule_links, widths_small}
use Rattle.spacing.proofs.Spacing.{distance_turned, distance_same, by_plain, three_allowed, equal_barred}
use Rattle.pair_test.proofs.Pairing.{free_allowed}
use Rattle.rule_strikes.specs.declared.Side.{Side}
use Rattle.rule_strikes.specs.Strikes.{stretch, side_of, other_place, partners, clashing, allowed, SideFits}
use Rattle.rule_strikes.proofs.Spans.{stretch_out}

-- a test of the members of a stretch
in_stretch : (a b : ℕ) (v : ℕ) (p q : Bool) → (a ≤ v → v < b → p ≡ q) → stretch a b v && p ≡ stretch a b v && q
in_stretch a b v p q h = bool (stretch a b v) (λ e. let o = stretch_out a b v e in rw e (h o.0 o.1)) (λ e. rw e)

-- the pairs of a rule, as the code goes through them and as the pair test says them

lists_a : (ps : List ℕ) (first x base m v : ℕ) → first ≤ v
    → partners ps false first x base m v ≡ lists_pair ps base m x (v - first)
unfolding partners
lists_a ps first x base m v h = rw (le-leb first v h)

lists_b : (ps : List ℕ) (first x base m v : ℕ) → first ≤ v
    → partners ps true first x base m v ≡ lists_pair ps base m (v - first) x
unfolding partners
lists_b ps first x base m v h = rw (le-leb first v h)

not_not : (b : Bool) → not (not b) ≡ b
not_not true = refl
not_not false = refl

-- what a rule allows, vertex by vertex
module _ (fs ps : List ℕ) (s : Side) (u v : ℕ) where
  allowed_three : eqb s.kind 3 ≡ true
      → allowed fs ps s u v ≡ stretch s.first s.end v
      && partners ps s.turned s.first (u - s.from) s.value s.count v
  unfolding allowed ◌∩◌
  allowed_three e = rw e

  allowed_other : eqb s.kind 3 ≡ false
      → allowed fs ps s u v ≡ stretch s.first s.end v
      && zero_or_more (spare_by s.kind s.value s.widths (distance (freq fs u) (freq fs v)) false)
  unfolding allowed ◌∖◌ clashing
  allowed_other e = rw (
    e,
    not_not (zero_or_more (spare_by s.kind s.value s.widths
        (distance (freq fs u) (freq fs v)) false)),
  )

module _ (sheet fs rs ps : List ℕ) (j u v : ℕ) where
  -- rule row j from its link a, u being of a, and from its link b, u being of b
  pub allowed_a : allowed fs ps (side_of sheet rs j false (rule_a rs j) (rule_b rs j)) u v
      ≡ stretch (link_first sheet (rule_b rs j)) (link_first sheet (rule_b rs j) + link_count sheet (rule_b rs j)) v
      && zero_or_more (spare_row sheet fs rs ps j u v)
  unfolding spare_row rule_widths
  allowed_a =
      let first = link_first sheet (rule_b rs j) in
      let end = first + link_count sheet (rule_b rs j) in
      let d = distance (freq fs u) (freq fs v) in
      let s = side_of sheet rs j false (rule_a rs j) (rule_b rs j) in
      bool (eqb (rule_kind rs j) 3)
      (λ e. allowed_three fs ps s u v e ∙ in_stretch first end v _ _ (λ l h.
      lists_a ps first (u - link_first sheet (rule_a rs j)) (rule_value rs j) (rule_count rs j) v l
      ∙ sym (three_allowed (rule_kind rs j) (rule_value rs j) _ d _ (eqb-true _ _ e))))
      (λ e. allowed_other fs ps s u v e ∙ in_stretch first end v _ _ (λ l h.
      ap zero_or_more
      (by_plain (rule_kind rs j) (rule_value rs j) _ d _ _ (λ q. clash (eqb (rule_kind rs j) 3) (eq-eqb _ _ q) e))))

  widths_turned : link_width sheet (rule_b rs j) + link_width sheet (rule_a rs j) ≡ rule_widths sheet rs j
  unfolding rule_widths
  widths_turned = omega arith

  pub allowed_b : allowed fs ps (side_of sheet rs j true (rule_b rs j) (rule_a rs j)) u v
      ≡ stretch (link_first sheet (rule_a rs j)) (link_first sheet (rule_a rs j) + link_count sheet (rule_a rs j)) v
      && zero_or_more (spare_row sheet fs rs ps j v u)
  unfolding spare_row
  allowed_b =
      let first = link_first sheet (rule_a rs j) in
      let end = first + link_count sheet (rule_a rs j) in
      let d = distance (freq fs v) (freq fs u) in
      let s = side_of sheet rs j true (rule_b rs j) (rule_a rs j) in
      bool (eqb (rule_kind rs j) 3)
      (λ e. allowed_three fs ps s u v e ∙ in_stretch first end v _ _ (λ l h.
      lists_b ps first (u - link_first sheet (rule_b rs j)) (rule_value rs j) (rule_count rs j) v l
      ∙ sym (three_allowed (rule_kind rs j) (rule_value rs j) _ d _ (eqb-true _ _ e))))
      (λ e. allowed_other fs ps s u v e ∙ in_stretch first end v _ _ (λ l h.
      ap zero_or_more
      (ap (λ (x : ℕ). spare_by (rule_kind rs j) (rule_value rs j) s.widths x false)
      (distance_turned (freq fs u) (freq fs v))
      ∙ ap (λ (w : ℕ). spare_by (rule_kind rs j) (rule_value rs j) w d false) widths_turned
      ∙ by_plain (rule_kind rs j) (rule_value rs j) _ d _ _ (λ q. clash (eqb (rule_kind rs j) 3) (eq-eqb _ _ q) e))))

module _ {sheet fs rs ps : List ℕ} {k n q t : ℕ} (P : Parts sheet fs rs ps k n q t) (j : ℕ) (b : j < q) where
  -- both sides of the rule meet what the strikes ask
  listed_is : rule_kind rs j ≡ 3 → listed rs j ≡ rule_count rs j
  unfolding listed
  listed_is h = rw h

  pair_places : rule_kind rs j ≡ 3 → (i : ℕ) → i < rule_count rs j → (4 * (rule_value rs j + i) + 4 ≤ length ps) ×
      (pair_first ps (rule_value rs j + i) < link_count sheet (rule_a rs j))
      × (pair_second ps (rule_value rs j + i) < link_count sheet (rule_b rs j))
  unfolding pairs_ok rule_pairs_ok pair_ok
  pair_places e i l =
      let x = listed_is e in
      let f = (rule_in_lem rs k q t j P.rules b).pairs (omega arith) in
      let m = link_count sheet (rule_a rs j) in
      let o = link_count sheet (rule_b rs j) in
      let y = rule_value rs j + i in
      let g = all_out (listed rs j) (pair_ok ps (rule_value rs j) m o)
      (all_out q (rule_pairs_ok sheet rs ps) P.pairs j b) i (omega arith) in
      let z = and_l (ltb (pair_first ps y) m && ltb (pair_second ps y) o) _ g in (
        omega (arith, P.has_pair_rows),
        ltb-true (pair_first ps y) m (and_l (ltb (pair_first ps y) m) _ z),
        ltb-true (pair_second ps y) o (and_r (ltb (pair_first ps y) m) _ z),
      )

  -- what a rule of kind 1 or 2 allows differs in frequency
  pub allows_differ : (u v : ℕ) → (rule_kind rs j ≡ 3 → ⊥) → zero_or_more (spare_row sheet fs rs ps j u v) ≡ true
      → zero_or_more (spare_free fs u v) ≡ true
  unfolding spare_row
  allows_differ u v ne h = free_allowed fs u v ∙ not_in (is_false (eqb (freq fs u) (freq fs v)) (λ e.
      let x = eqb-true (freq fs u) (freq fs v) e in
      let z = rw (
        by_plain (rule_kind rs j) (rule_value rs j) _ (distance (freq fs u) (freq fs v)) _ false ne,
        x,
        distance_same (freq fs v),
      ) at h in
      clash _ z (equal_barred (rule_kind rs j) (rule_value rs j) _ ne ((rule_in_lem rs k q t j P.rules b).plain ne).0)))

  -- the numbers of such a rule
  numbers_fit : (w : ℕ) → w ≡ rule_widths sheet rs j → (rule_kind rs j ≡ 3 → ⊥) → (rule_value rs j < 2 ^ 32) × (w < 2 ^ 32)
  numbers_fit w e ne = (omega (arith, ((rule_in_lem rs k q t j P.rules b).plain ne).1), omega (arith, widths_small P j b))

  pub fits_a : SideFits fs ps n (side_of sheet rs j false (rule_a rs j) (rule_b rs j))
  unfolding other_place rule_widths
  fits_a = let o = rule_links P j b in record {
    freqs = P.has_freq_rows;
    own = link_in sheet k n P.links (rule_a rs j) (omega arith);
    order = omega arith;
    other = link_in sheet k n P.links (rule_b rs j) o.1;
    pairs = λ e i l. let p = pair_places e i l in (p.0, omega arith);
    plain = numbers_fit _ refl;
  }

  pub fits_b : SideFits fs ps n (side_of sheet rs j true (rule_b rs j) (rule_a rs j))
  unfolding other_place
  fits_b = let o = rule_links P j b in record {
    freqs = P.has_freq_rows;
    own = link_in sheet k n P.links (rule_b rs j) o.1;
    order = omega arith;
    other = link_in sheet k n P.links (rule_a rs j) (omega arith);
    pairs = λ e i l. let p = pair_places e i l in (p.0, omega arith);
    plain = numbers_fit _ (widths_turned sheet fs rs ps j 0 0);
  }
