-- The sheet of the heaviest job has few pairs: every rule is with the last link, and each vertex of the other link has
-- at most two partners there.
use mathlib.Core.Path.{◌≡◌, refl, sym, ap, ◌∙◌}
use mathlib.Core.Bool.{Bool, true, false, not, ◌&&◌, and-false}
use mathlib.Core.List.{List}
use Prim.Native.Nat.{ℕ, zero, suc, ◌+◌, ◌-◌, ◌*◌, ◌/◌, ◌%◌, ◌≤◌, ◌<◌}
use native.Mathlib.Omega.{arith}
use native.Mathlib.Nat.{mul-le-mul_right}
use lib.Dec.{ltb, eqb}
use lib.ListN.{length}
use borrow.Author.Tests.{lt-ltb, le-ltb, ltb-true, ltb-false, eq-eqb, ne_eqb, eqb-true, eqb-false}
use Rattle.sets.specs.Below.{count, sum_to}
use Rattle.sets.proofs.Tests.{clash, bool, and_l, and_r, not_out}
use Rattle.sets.proofs.Below.{count_within, count_just, one_mono}
use Rattle.rule_sections.specs.Rules.{most_pairs}
use Rattle.dimacs.specs.Reading.{count_of}
use Rattle.dimacs.specs.Made.{is_pair, pairs_of, is_full, is_ruled, ruled_a, ruled_b, rule_pairs, pairs_before, rule_total}
use Rattle.dimacs.specs.Made.{pair_total}
use Rattle.dimacs.proofs.Lists.{select_length}
use Rattle.dimacs.proofs.Codes.{code_first, code_second, code_back, code_lt, first_lt, second_lt, count_rows}
use Rattle.dimacs.proofs.Accepts.{rule_count_lem, ruled_is}
use Rattle.heaviest_sheet.specs.Written.{links, is_last, meets, graph}
use Rattle.heaviest_sheet.specs.Call.{SizesFit}
use Rattle.heaviest_sheet.proofs.Links.{links_length, links_count, links_first, links_small, graph_is}

sum_most : (l c : ℕ) (f : ℕ → ℕ) → ((i : ℕ) → i < l → f i ≤ c) → sum_to l f ≤ l * c
unfolding sum_to
sum_most zero c f h = omega arith
sum_most (suc l) c f h = omega (arith, sum_most l c f (λ i b. h i (omega arith)), h l (omega arith))

-- rows of w numbers, of which at most c pass in each
rows_most : (l w c : ℕ) (p : ℕ → Bool) → ((x : ℕ) → x < l → count w (λ y. p (x * w + y)) ≤ c) → count (l * w) p ≤ l * c
rows_most l w c p h = let q = count_rows l w p (λ x y. p (x * w + y)) (λ x y _. refl) in
    omega (arith, sum_most l c (λ x. count w (λ y. p (x * w + y))) h)

-- only the first and the last number pass
count_ends : (m : ℕ) (p : ℕ → Bool) → ((y : ℕ) → y < m → (y ≡ 0 → ⊥) → (y + 1 ≡ m → ⊥) → p y ≡ false) → count m p ≤ 2
unfolding count
count_ends zero p h = omega arith
count_ends (suc m) p h =
    let a = count_within m 0 1 p (λ y l t. bool (eqb y 0)
    (λ e. let q = eqb-true y 0 e in (omega arith, omega arith))
    (λ e. clash (p y) t (h y (omega arith) (eqb-false y 0 e) (λ q. omega arith)))) in
    let b = one_mono (p m) true (λ _. refl) in
    omega (arith, a.0)

module _ (k m : ℕ) (Z : SizesFit k m) where
  abbrev cs : List ℕ
  cs = links k m

  abbrev adj : ℕ → ℕ → Bool
  adj = graph k m

  -- the pair of code x * m + y, of links a < b
  module _ (a b : ℕ) (up : a < b) (lt : b < k) where
    square : count_of cs a * count_of cs b ≡ m * m
    square = rw (links_count k m a (omega arith), links_count k m b lt) refl

    pairs_count : length (pairs_of cs adj a b) ≡ count (m * m) (is_pair cs adj a b)
    unfolding pairs_of
    pairs_count =
        select_length (count_of cs a * count_of cs b) (is_pair cs adj a b)
        ∙ ap (λ i. count i (is_pair cs adj a b)) square

    pair_is : (x y : ℕ) → x < m → y < m → is_pair cs adj a b (x * m + y) ≡ meets k m (a * m + x) (b * m + y)
    unfolding is_pair
    pair_is x y h g =
        rw (
          links_count k m b lt,
          links_first k m a (omega arith),
          links_first k m b (omega arith),
          code_first m x y g,
          code_second m x y g,
        )
        (graph_is k m Z (a * m + x) (b * m + y) (code_lt k m a x (omega arith) h) (code_lt k m b y lt g) later)
      where
        later : (a * m + x) / m < (b * m + y) / m
        later = rw (code_first m a x h, code_first m b y g) up

    -- links before the last are joined by all pairs
    all_joined : b + 1 < k → is_full cs adj a b ≡ true
    unfolding is_full meets
    all_joined h = eq-eqb _ _ (pairs_count
        ∙ count_just (m * m) 0 (m * m) (is_pair cs adj a b) (omega arith) (λ z l t. (omega arith, omega arith)) every
        ∙ sym square)
      where
        every : (z : ℕ) → 0 ≤ z → z < 0 + m * m → is_pair cs adj a b z ≡ true
        every z _ l =
            let x = first_lt m m z (omega arith) in
            let y = second_lt m m z (omega arith) in
            let q : is_pair cs adj a b (z / m * m + z % m) ≡ true =
            pair_is (z / m) (z % m) x y ∙ rw (code_first m b (z % m) y, lt-ltb (b + 1) k h) refl in
            rw (code_back m z) at q

    -- a pair with the last link has its first or its last vertex
    pair_none : b + 1 ≡ k → (x y : ℕ) → x < m → y < m → (y ≡ 0 → ⊥) → (y + 1 ≡ m → ⊥)
        → is_pair cs adj a b (x * m + y) ≡ false
    unfolding meets is_last
    pair_none e x y h g first last =
        let late = le-ltb (b + 1) k (omega arith) in
        let not_first = ne_eqb y 0 first in
        let not_last = ne_eqb (y + 1) m last in
        pair_is x y h g
        ∙ simp (code_first m b y g, code_second m b y g, late, not_first, not_last, and-false) refl

    few_joined : b + 1 ≡ k → length (pairs_of cs adj a b) ≤ m * 2
    few_joined e =
        let rows = rows_most m m 2 (is_pair cs adj a b)
        (λ x h. count_ends m (λ y. is_pair cs adj a b (x * m + y)) (λ y g. pair_none e x y h g)) in
        omega (arith, pairs_count)

  -- a rule is with the last link
  ruled_last : (a b : ℕ) → a < b → b < k → is_full cs adj a b ≡ false → b + 1 ≡ k
  ruled_last a b up lt e = bool (ltb (b + 1) k)
      (λ t. clash (is_full cs adj a b) (all_joined a b up lt (ltb-true (b + 1) k t)) e)
      (λ f. let g = ltb-false (b + 1) k f in omega arith)

  few_rules : rule_total cs adj ≤ k
  unfolding is_ruled
  few_rules =
      let n = links_length k m in
      let rows = rows_most (length cs) (length cs) 1 (is_ruled cs adj) row in
      omega (arith, rule_count_lem cs adj (links_small k m Z))
    where
      row : (a : ℕ) → a < length cs → count (length cs) (λ b. is_ruled cs adj (a * length cs + b)) ≤ 1
      row a h = (count_within (length cs) (k - 1) 1 (λ b. is_ruled cs adj (a * length cs + b)) (λ b l t.
          let first = code_first (length cs) a b l in
          let second = code_second (length cs) a b l in
          let r : (ltb a b && not (is_full cs adj a b)) ≡ true = rw (first, second) at t in
          let up = ltb-true a b (and_l (ltb a b) (not (is_full cs adj a b)) r) in
          let part = not_out (is_full cs adj a b) (and_r (ltb a b) (not (is_full cs adj a b)) r) in
          let e = ruled_last a b up (omega (arith, links_length k m)) part in
          (omega arith, omega arith))).0

  few_listed : (j : ℕ) → j < rule_total cs adj → length (rule_pairs cs adj j) ≤ m * 2
  unfolding rule_pairs
  few_listed j h =
      let R = ruled_is cs adj (links_small k m Z) j h in
      let lt : ruled_b cs adj j < k = omega (arith, R.within, links_length k m) in
      few_joined (ruled_a cs adj j) (ruled_b cs adj j) R.order lt
      (ruled_last (ruled_a cs adj j) (ruled_b cs adj j) R.order lt R.partial)

  pub few_pairs : pair_total cs adj ≤ most_pairs
  unfolding pairs_before
  few_pairs =
      let s = sum_most (rule_total cs adj) (m * 2) (λ i. length (rule_pairs cs adj i)) few_listed in
      let r = mul-le-mul_right (m * 2) few_rules in
      let f = Z.few in
      omega arith
