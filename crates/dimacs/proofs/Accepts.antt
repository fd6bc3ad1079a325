-- The reader accepts the sheet that is made.
use mathlib.Core.Path.{◌≡◌, refl, sym, ◌∙◌}
use mathlib.Core.Bool.{Bool, true, false, not, cond}
use mathlib.Core.List.{List, ◌++◌}
use Prim.Native.Nat.{ℕ, zero, suc, ◌+◌, ◌-◌, ◌*◌, ◌/◌, ◌%◌, ◌≤◌, ◌<◌}
use native.Mathlib.Omega.{arith}
use lib.Dec.{ltb, eqb}
use lib.ListN.{length, get_or}
use borrow.Author.Tests.{lt-ltb, le-leb, eq-eqb, ltb-true, eqb-true, eqb-false}
use Rattle.sets.specs.Below.{all, sum_to, count}
use Rattle.sets.proofs.Tests.{bool, and_l, and_r, and_in, or_l, or_r, not_out}
use Rattle.sets.proofs.Below.{all_in, sum_in}
use Rattle.sheet_rows.specs.Rows.{link_first, link_count, freq}
use Rattle.rule_sections.specs.Rules.{most_khz, before, plain_ok}
use Rattle.sheet.specs.Sheet.{link_ok, link_rows_ok, links_ok, freq_ok, link_freqs_ok, freqs_ok}
use Rattle.rule_sections.specs.Rules.{kind_ok, only, listed, rule_rises, rule_row_ok, rule_ok, rules_ok, pair_rises, pair_ok}
use Rattle.rule_sections.specs.Rules.{rule_pairs_ok, pairs_ok}
use Rattle.dimacs.specs.Reading.{count_of, first_of, vertices_of}
use Rattle.dimacs.specs.Made.{freq_rows, is_pair, pairs_of, is_full, is_ruled, ruled, rule_pairs, ruled_a}
use Rattle.dimacs.specs.Made.{ruled_b, kind_of, value_of, pairs_before, rule_total, pair_total, rule_rows, pair_rows}
use Rattle.dimacs.proofs.Lists.{Selected, select_length, select_at, select_rises}
use Rattle.dimacs.proofs.Codes.{first_lt, second_lt, code_before}
use Rattle.dimacs.proofs.Fields.{Counted, freq_field, a_field, b_field, kind_field, pairs_field}
use Rattle.dimacs.proofs.Fields.{value_field, first_position, second_position}

pub sum_same : (m : ℕ) (f g : ℕ → ℕ) → ((i : ℕ) → i < m → f i ≡ g i) → sum_to m f ≡ sum_to m g
unfolding sum_to
sum_same zero f g h = refl
sum_same (suc m) f g h = rw (sum_same m f g (λ i l. h i (omega arith)), h m (omega arith))

-- counts within the limits of form 1
pub record Small (cs : List ℕ) : Type 0 where
  pub links_some : 0 < length cs
  pub links_few : length cs ≤ 64
  pub freqs_few : vertices_of cs ≤ 512
  pub some : (l : ℕ) → l < length cs → 0 < count_of cs l

-- links and frequencies

pub in_all : (cs : List ℕ) (l i : ℕ) → l < length cs → i < count_of cs l → first_of cs l + i < vertices_of cs
unfolding first_of
in_all cs l i h g = omega (arith, sum_in (length cs) l (count_of cs) h)

module _ (cs s : List ℕ) (S : Small cs) (L : Counted cs s) where
  pub counts_sum : (m : ℕ) → m ≤ length cs → sum_to m (link_count s) ≡ first_of cs m
  unfolding first_of
  counts_sum m h = sum_same m (link_count s) (count_of cs) (λ i l. L.count i (omega arith))

  pub links_ok_lem : links_ok s (length cs) (vertices_of cs) ≡ true
  unfolding links_ok link_rows_ok link_ok link_first link_count
  links_ok_lem = and_in
      (all_in (length cs) _ (λ l h.
      let o : 0 < link_count s l = rw (L.count l h) (S.some l h) in
      and_in (eq-eqb _ _ (L.first l h ∙ sym (counts_sum l (omega arith)))) (lt-ltb _ _ o)))
      (eq-eqb _ _ (counts_sum (length cs) (omega arith)))

  pub freqs_ok_lem : (more : List ℕ) → freqs_ok s (freq_rows cs ++ more) (length cs) ≡ true
  unfolding freqs_ok link_freqs_ok freq_ok
  freqs_ok_lem more = all_in (length cs) _ (λ l h. rw (L.first l h, L.count l h)
      (all_in (count_of cs l) _ (λ i g.
      let b = in_all cs l i h g in
      let f = freq_field cs more (first_of cs l + i) b in
      let few = S.freqs_few in
      let x : 0 < freq (freq_rows cs ++ more) (first_of cs l + i) = omega arith in
      let y : freq (freq_rows cs ++ more) (first_of cs l + i) ≤ most_khz = omega arith in
      and_in (and_in (lt-ltb _ _ x) (le-leb _ _ y))
      (bool (eqb i 0) (λ e. or_l _ e)
      (λ e. let ne = eqb-false i 0 e in
      let p : first_of cs l + i - 1 < vertices_of cs = omega arith in
      let r = freq_field cs more (first_of cs l + i - 1) p in
      let z : freq (freq_rows cs ++ more) (first_of cs l + i - 1) < freq (freq_rows cs ++ more) (first_of cs l + i) =
      omega (arith, ne) in
      or_r (eqb i 0) (lt-ltb _ _ z))))))

-- rules and pairs
module _ (cs : List ℕ) (adj : ℕ → ℕ → Bool) (S : Small cs) where
  pub rule_count_lem : rule_total cs adj ≡ count (length cs * length cs) (is_ruled cs adj)
  unfolding ruled
  rule_count_lem = select_length (length cs * length cs) (is_ruled cs adj)

  ruled_at : (j : ℕ) → j < rule_total cs adj
      → Selected (length cs * length cs) (is_ruled cs adj) j (get_or (ruled cs adj) j 0)
  unfolding ruled
  ruled_at j h = select_at (length cs * length cs) (is_ruled cs adj) j (rw rule_count_lem at h)

  -- a rule row is of links a < b that are not joined by all pairs
  pub record Ruled (j : ℕ) : Type 0 where
    pub order : ruled_a cs adj j < ruled_b cs adj j
    pub within : ruled_b cs adj j < length cs
    pub partial : is_full cs adj (ruled_a cs adj j) (ruled_b cs adj j) ≡ false

  pub ruled_is : (j : ℕ) → j < rule_total cs adj → Ruled j
  unfolding is_ruled ruled_a ruled_b
  ruled_is j h =
      let r = ruled_at j h in
      let z = get_or (ruled cs adj) j 0 in
      record {
        order = ltb-true _ _ (and_l (ltb (z / length cs) (z % length cs)) _ r.test);
        within = second_lt (length cs) (length cs) z r.lt;
        partial = not_out _ (and_r (ltb (z / length cs) (z % length cs)) _ r.test);
      }

  pub ruled_rises : (i j : ℕ) → i < j → j < rule_total cs adj
      → before (ruled_a cs adj i) (ruled_b cs adj i) (ruled_a cs adj j) (ruled_b cs adj j) ≡ true
  unfolding ruled_a ruled_b ruled
  ruled_rises i j l h = code_before (length cs) _ _ S.links_some
      (select_rises (length cs * length cs) (is_ruled cs adj) i j l (rw rule_count_lem at h))

  -- how many pairs a row lists
  kind_listed : (b : Bool) (m : ℕ) → eqb m 0 ≡ b → only (eqb (cond b 1 3) 3) m ≡ m
  kind_listed true m e = sym (eqb-true m 0 e)
  kind_listed false m e = refl

  kind_right : (b : Bool) (m sum : ℕ) → eqb m 0 ≡ b → kind_ok (cond b 1 3) m (cond b most_khz sum) sum ≡ true
  unfolding kind_ok plain_ok
  kind_right true m sum e = rw e
  kind_right false m sum e = and_in (lt-ltb 0 m (let ne = eqb-false m 0 e in omega (arith, ne))) (eq-eqb sum sum refl)

  module _ (rest : List ℕ) where
    pub listed_is : (j : ℕ) → j < rule_total cs adj → listed (rule_rows cs adj ++ rest) j ≡ length (rule_pairs cs adj j)
    unfolding listed kind_of
    listed_is j h = rw (kind_field cs adj rest j h, pairs_field cs adj rest j h)
        (kind_listed (eqb (length (rule_pairs cs adj j)) 0) (length (rule_pairs cs adj j)) refl)

    pub listed_sum : (m : ℕ) → m ≤ rule_total cs adj → sum_to m (listed (rule_rows cs adj ++ rest)) ≡ pairs_before cs adj m
    unfolding pairs_before
    listed_sum m h = sum_same m _ _ (λ i l. listed_is i (omega arith))

    rule_ok_lem : (j : ℕ) → j < rule_total cs adj → rule_ok (rule_rows cs adj ++ rest) (length cs) j ≡ true
    unfolding rule_ok rule_row_ok rule_rises kind_of value_of
    rule_ok_lem j h =
        let r = ruled_is j h in
        rw (
          listed_sum j (omega arith),
          a_field cs adj rest j h,
          b_field cs adj rest j h,
          kind_field cs adj rest j h,
          pairs_field cs adj rest j h,
          value_field cs adj rest j h,
        )
        (and_in (and_in (and_in (lt-ltb _ _ r.order) (lt-ltb _ _ r.within))
        (bool (eqb j 0) (λ e. or_l _ e)
        (λ e. let ne = eqb-false j 0 e in let p : j - 1 < j = omega (arith, ne) in let b : j - 1 < rule_total cs adj =
        omega arith in
        or_r (eqb j 0)
        (rw (a_field cs adj rest (j - 1) b, b_field cs adj rest (j - 1) b) (ruled_rises (j - 1) j p h)))))
        (kind_right (eqb (length (rule_pairs cs adj j)) 0) (length (rule_pairs cs adj j)) (pairs_before cs adj j) refl))

    pub rules_ok_lem : rules_ok (rule_rows cs adj ++ rest) (length cs) (rule_total cs adj) (pair_total cs adj) ≡ true
    unfolding rules_ok
    rules_ok_lem = and_in (all_in (rule_total cs adj) _ rule_ok_lem) (eq-eqb _ _ (listed_sum (rule_total cs adj) (omega arith)))

  -- pair i of rule row j
  pub pair_at_lem : (j i : ℕ) → i < length (rule_pairs cs adj j)
      → Selected (count_of cs (ruled_a cs adj j) * count_of cs (ruled_b cs adj j))
      (is_pair cs adj (ruled_a cs adj j) (ruled_b cs adj j)) i (get_or (rule_pairs cs adj j) i 0)
  unfolding rule_pairs pairs_of
  pair_at_lem j i h = select_at _ _ i (rw select_length at h)

  pair_rises_lem : (j i : ℕ) → 0 < i → i < length (rule_pairs cs adj j)
      → get_or (rule_pairs cs adj j) (i - 1) 0 < get_or (rule_pairs cs adj j) i 0
  unfolding rule_pairs pairs_of
  pair_rises_lem j i o h = select_rises _ _ (i - 1) i (omega arith) (rw select_length at h)

  pair_ok_lem : (j i : ℕ) → j < rule_total cs adj → i < length (rule_pairs cs adj j)
      → pair_ok (pair_rows cs adj) (pairs_before cs adj j) (count_of cs (ruled_a cs adj j)) (count_of cs (ruled_b cs adj j)) i
      ≡ true
  unfolding pair_ok pair_rises
  pair_ok_lem j i h g =
      let r = ruled_is j h in
      let s = pair_at_lem j i g in
      let m = count_of cs (ruled_b cs adj j) in
      let o : 0 < m = S.some (ruled_b cs adj j) r.within in
      rw (first_position cs adj j i h g, second_position cs adj j i h g)
      (and_in (and_in (lt-ltb _ _ (first_lt (count_of cs (ruled_a cs adj j)) m _ s.lt))
      (lt-ltb _ _ (second_lt (count_of cs (ruled_a cs adj j)) m _ s.lt)))
      (bool (eqb i 0) (λ e. or_l _ e)
      (λ e. let ne = eqb-false i 0 e in let p : 0 < i = omega (arith, ne) in let b : i - 1 < length (rule_pairs cs adj j)
      = omega arith in
      let x : pairs_before cs adj j + i - 1 ≡ pairs_before cs adj j + (i - 1) = omega arith in
      or_r (eqb i 0)
      (rw (x, first_position cs adj j (i - 1) h b, second_position cs adj j (i - 1) h b)
      (code_before m _ _ o (pair_rises_lem j i p g))))))

  value_some : (b : Bool) (m sum : ℕ) → 0 < m → eqb m 0 ≡ b → cond b most_khz sum ≡ sum
  value_some true m sum o e = let q = eqb-true m 0 e in absurd (omega arith)
  value_some false m sum o e = refl

  pub value_is : (j : ℕ) → 0 < length (rule_pairs cs adj j) → value_of cs adj j ≡ pairs_before cs adj j
  unfolding value_of
  value_is j o = value_some (eqb (length (rule_pairs cs adj j)) 0) (length (rule_pairs cs adj j)) (pairs_before cs adj j) o
      refl

  pub pairs_ok_lem : (s rest : List ℕ) → Counted cs s
      → pairs_ok s (rule_rows cs adj ++ rest) (pair_rows cs adj) (rule_total cs adj) ≡ true
  unfolding pairs_ok rule_pairs_ok
  pairs_ok_lem s rest L = all_in (rule_total cs adj) _ (λ j h.
      let r = ruled_is j h in
      let o = r.order in
      let b : ruled_a cs adj j < length cs = omega (arith, r.within) in
      rw (
        listed_is rest j h,
        value_field cs adj rest j h,
        a_field cs adj rest j h,
        b_field cs adj rest j h,
        L.count (ruled_a cs adj j) b,
        L.count (ruled_b cs adj j) r.within,
      )
      (all_in (length (rule_pairs cs adj j)) _ (λ i g. rw (value_is j (omega arith)) (pair_ok_lem j i h g))))
