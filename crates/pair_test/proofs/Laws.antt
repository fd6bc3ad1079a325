-- Laws of layers, of the sections of an accepted sheet and of what its rows may say.
use Rattle.std.proofs.Common.{ℕ, zero, suc, ◌+◌, ◌-◌, ◌*◌, ◌≤◌, ◌<◌, ◌≡◌, sym, List, ◌⊎◌, inl, inr, true, ◌&&◌, add-one, arith, length, length-drop, eqb, ltb, leb, eqb-true, ltb-true, leb-true, leb-false, eq-eqb, lt-ltb, le-leb}
use borrow.Author.Tests.{lt-leb}
use Rattle.sets.specs.Below.{sum_to}
use Rattle.sets.proofs.Tests.{bool, iff, and_l, and_r, and_in, or_case, below}
use Rattle.sets.proofs.Below.{all_out, sum_in}
use Rattle.sheet_rows.specs.Rows.{HasRow, HasLink, freq_bytes, rule_bytes, pair_bytes, link_bytes, link_part, row_width}
use Rattle.sheet_rows.specs.Rows.{link_first, link_count, link_width, freq, rule_a, rule_b, rule_kind, rule_count, rule_value}
use Rattle.sheet_rows.proofs.Rows.{has_link}
use Rattle.rule_sections.specs.Rules.{most_khz, listed}
use Rattle.sheet.specs.Sheet.{most_width, links_ok, width_ok, width_rows_ok, widths_ok}
use Rattle.sheet.specs.Sheet.{freq_ok, link_freqs_ok, freqs_ok, k_of, n_of, q_of, t_of, freq_part, rule_part, pair_part}
use Rattle.sheet.specs.Accepted.{Accepted}
use Rattle.sheet.proofs.Links.{link_first_lem, link_sum, link_in}
use Rattle.rule_sections.proofs.RuleRows.{rule_in_lem}
use Rattle.pair_test.specs.Layers.{layer_of, InLink}
use Rattle.pair_test.specs.Parts.{LinkRows, Parts}
use Rattle.pair_test.specs.Pairs.{rule_widths}
use Rattle.pair_test.specs.Asked.{RowAt}

-- the layers of a sheet whose link section is accepted

module _ (s : List ℕ) (k n : ℕ) (ok : links_ok s k n ≡ true) where
  layer_is : (m l v : ℕ) → m ≤ k → l < m → InLink s l v → layer_of s m v ≡ l
  unfolding layer_of
  layer_is zero l v g h i = absurd (omega arith)
  layer_is (suc m) l v g h i = below l m h
      (λ b.
      let d = link_first_lem s k n ok l (omega arith) in
      let e = link_first_lem s k n ok m (omega arith) in
      let x : v < link_first s m = omega (arith, sum_in m l (link_count s) b, d, e, i.high) in
      rw (lt-leb (link_first s m) v x) (layer_is m l v (omega arith) b i))
      (λ e. let x : link_first s m ≤ v = rw e at i.low in rw (le-leb (link_first s m) v x) (sym e))

  layer_at : (m v : ℕ) → m ≤ k → v < sum_to m (link_count s) → (layer_of s m v < m) × InLink s (layer_of s m v) v
  unfolding layer_of sum_to
  layer_at zero v g h = absurd (omega arith)
  layer_at (suc m) v g h = bool (leb (link_first s m) v)
      (λ e.
      let x = leb-true (link_first s m) v e in
      rw e (omega arith, record { low = x; high = omega (arith, link_first_lem s k n ok m (omega arith)) }))
      (λ e.
      let x = leb-false (link_first s m) v e in
      let r = layer_at m v (omega arith) (omega (arith, link_first_lem s k n ok m (omega arith))) in
      rw e (omega (arith, r.0), r.1))

  -- a vertex of link l is in layer l, and a vertex is in the link of its layer
  pub layer_of_lem : (l v : ℕ) → l < k → InLink s l v → layer_of s k v ≡ l
  layer_of_lem l v h i = layer_is k l v (omega arith) h i

  pub layer_in : (v : ℕ) → v < n → (layer_of s k v < k) × InLink s (layer_of s k v) v
  layer_in v h = layer_at k v (omega arith) (omega (arith, link_sum s k n ok))

  -- a vertex of a link is among the n
  pub in_link_lt : (l v : ℕ) → l < k → InLink s l v → v < n
  in_link_lt l v h i = omega (arith, link_in s k n ok l h, i.high)

  -- v stands from the first vertex of link l to its end just where l is its layer
  pub link_test : (l v : ℕ) → l < k → v < n
      → leb (link_first s l) v && ltb v (link_first s l + link_count s l) ≡ eqb l (layer_of s k v)
  link_test l v h b = iff _ _
      (λ e. eq-eqb l (layer_of s k v) (sym (layer_of_lem l v h (record {
        low = leb-true (link_first s l) v (and_l (leb (link_first s l) v) _ e);
        high = ltb-true v (link_first s l + link_count s l) (and_r (leb (link_first s l) v) _ e);
      }))))
      (λ e.
      let q = eqb-true l (layer_of s k v) e in
      let i : InLink s l v = rw q (layer_in v b).1 in
      and_in (le-leb _ _ i.low) (lt-ltb _ _ i.high))

-- the steps of the loop for the layer
pub layer_hit : (s : List ℕ) (l m v : ℕ) → l ≡ m + 1 → link_first s m ≤ v → layer_of s l v ≡ m
unfolding layer_of
layer_hit s l m v q h = rw (q, add-one, le-leb (link_first s m) v h)

pub layer_down : (s : List ℕ) (l m v : ℕ) → l ≡ m + 1 → v < link_first s m → layer_of s l v ≡ layer_of s m v
unfolding layer_of
layer_down s l m v q h = rw (q, add-one, lt-leb (link_first s m) v h)

-- the sections of an accepted sheet

pub parts_of : (s : List ℕ) → Accepted s
    → Parts s (freq_part s) (rule_part s) (pair_part s) (k_of s) (n_of s) (q_of s) (t_of s)
parts_of s a =
    record {
      k_some = a.head.k_some;
      k_small = a.head.k_small;
      n_some = a.head.n_some;
      n_small = a.head.n_small;
      has_link_rows = omega (arith, a.head.whole);
      has_freq_rows = simp length-drop (omega (arith, a.head.whole));
      has_rule_rows = simp length-drop (omega (arith, a.head.whole));
      has_pair_rows = simp length-drop (omega (arith, a.head.whole));
      links = a.links;
      widths = a.widths;
      freqs = a.freqs;
      rules = a.rules;
      pairs = a.pairs;
    }

module _ {s fs rs ps : List ℕ} {k n q t : ℕ} (P : Parts s fs rs ps k n q t) where
  -- a rule's links are in order, and among the k
  pub rule_links : (j : ℕ) → j < q → (rule_a rs j < rule_b rs j) × (rule_b rs j < k)
  rule_links j b = let f = rule_in_lem rs k q t j P.rules b in (f.order, f.within)

  -- the rows of a rule's links and the row itself are there, and the links' vertices are among the n
  pub links_within : (j : ℕ) → j < q →
      HasLink s (rule_a rs j) × HasLink s (rule_b rs j) × HasRow rule_bytes rs j ×
      (link_first s (rule_a rs j) + link_count s (rule_a rs j) ≤ n) ×
      (link_first s (rule_b rs j) + link_count s (rule_b rs j) ≤ n)
  links_within j b =
      let o = rule_links j b in (
        has_link s k (rule_a rs j) P.has_link_rows (omega arith),
        has_link s k (rule_b rs j) P.has_link_rows (omega arith),
        omega (arith, P.has_rule_rows),
        link_in s k n P.links (rule_a rs j) (omega arith),
        link_in s k n P.links (rule_b rs j) (omega arith),
      )

  -- the link rows alone
  pub has_link_rows : LinkRows s k n
  has_link_rows = record { n_some = P.n_some; n_small = P.n_small; rows = P.has_link_rows; links = P.links }

-- what the code needs of a rule row with two vertices
pub record RowBounds (s : List ℕ) (j u v : ℕ) : Type 0 where
  pub row_a : HasLink s (rule_a (rule_part s) j)
  pub row_b : HasLink s (rule_b (rule_part s) j)
  pub from_a : link_first s (rule_a (rule_part s) j) ≤ u
  pub from_b : link_first s (rule_b (rule_part s) j) ≤ v
  pub freq_u : HasRow freq_bytes (freq_part s) u
  pub freq_v : HasRow freq_bytes (freq_part s) v
  pub row : HasRow rule_bytes (rule_part s) j
  pub pairs : rule_kind (rule_part s) j ≡ 3 → 0 < rule_count (rule_part s) j →
      pair_bytes * (rule_value (rule_part s) j + rule_count (rule_part s) j) ≤ length (pair_part s)

listed_is : (p : List ℕ) (j : ℕ) → rule_kind p j ≡ 3 → listed p j ≡ rule_count p j
unfolding listed
listed_is p j h = rw h

module _ {s fs rs ps : List ℕ} {k n q t : ℕ} (P : Parts s fs rs ps k n q t) where
  pairs_there : (j : ℕ) → j < q → rule_kind rs j ≡ 3 → 0 < rule_count rs j
      → pair_bytes * (rule_value rs j + rule_count rs j) ≤ length ps
  pairs_there j b e o =
      let i = listed_is rs j e in
      let g = (rule_in_lem rs k q t j P.rules b).pairs (omega arith) in
      omega (arith, P.has_pair_rows)

  pub freq_there : (l v : ℕ) → l < k → InLink s l v → HasRow freq_bytes fs v
  freq_there l v b i = let x = in_link_lt s k n P.links l v b i in omega (arith, P.has_freq_rows)

pub row_bounds : {s : List ℕ} {j u v : ℕ} → RowAt s j u v → RowBounds s j u v
row_bounds {s} {j} {u} {v} r =
    let P = parts_of s r.accepted in
    let o = rule_links P j r.among in
    let w = links_within P j r.among in
    record {
      row_a = w.0;
      row_b = w.1;
      from_a = r.in_a.low;
      from_b = r.in_b.low;
      freq_u = freq_there P (rule_a (rule_part s) j) u (omega arith) r.in_a;
      freq_v = freq_there P (rule_b (rule_part s) j) v (omega arith) r.in_b;
      row = w.2;
      pairs = pairs_there P j r.among;
    }

-- the rows of a link of an accepted sheet: its own and its frequencies'
module _ {s : List ℕ} {l : ℕ} (a : Accepted s) (b : l < k_of s) where
  pub link_there : HasLink s l
  link_there = has_link s (k_of s) l (parts_of s a).has_link_rows b

  pub freqs_there : freq_bytes * (link_first s l + link_count s l) ≤ length (freq_part s)
  freqs_there = let P = parts_of s a in omega (arith, P.has_freq_rows, link_in s (k_of s) (n_of s) P.links l b)

-- the range of a link's width and of a vertex's frequency

width_most : (s : List ℕ) (k l : ℕ) → widths_ok s k ≡ true → l < k → link_width s l ≤ most_width
unfolding widths_ok width_rows_ok width_ok link_width
width_most s k l h b = go (or_case (ltb (link_bytes s) 8) _ (all_out k (width_ok (link_bytes s) (link_part s)) h l b))
  where
    go : (ltb (link_bytes s) 8 ≡ true) ⊎ ((ltb 0 (row_width (link_bytes s) (link_part s) l)
        && leb (row_width (link_bytes s) (link_part s) l) most_width) ≡ true)
        → row_width (link_bytes s) (link_part s) l ≤ most_width
    go (inl t) = let z = ltb-true (link_bytes s) 8 t in rw (lt-leb 8 (link_bytes s) z) (omega arith)
    go (inr t) = leb-true (row_width (link_bytes s) (link_part s) l) most_width
        (and_r (ltb 0 (row_width (link_bytes s) (link_part s) l)) _ t)

freq_range : (s fs : List ℕ) (k l v : ℕ) → freqs_ok s fs k ≡ true → l < k → InLink s l v
    → (0 < freq fs v) × (freq fs v ≤ most_khz)
unfolding freqs_ok link_freqs_ok freq_ok
freq_range s fs k l v h b i =
    let at = link_first s l in
    let e : at + (v - at) ≡ v = omega (arith, i.low) in
    let o = all_out (link_count s l) (freq_ok fs at) (all_out k (link_freqs_ok s fs) h l b) (v - at)
    (omega (arith, i.low, i.high)) in
    let x = and_l (ltb 0 (freq fs (at + (v - at))) && leb (freq fs (at + (v - at))) most_khz) _ o in
    let z = ltb-true 0 (freq fs (at + (v - at))) (and_l (ltb 0 (freq fs (at + (v - at)))) _ x) in
    let y = leb-true (freq fs (at + (v - at))) most_khz (and_r (ltb 0 (freq fs (at + (v - at)))) _ x) in
    (rw e at z, rw e at y)

-- what the numbers of the pair test keep to, in an accepted sheet
module _ {s fs rs ps : List ℕ} {k n q t : ℕ} (P : Parts s fs rs ps k n q t) where
  pub widths_small : (j : ℕ) → j < q → rule_widths s rs j ≤ 2 * most_width
  unfolding rule_widths
  widths_small j b =
      let o = rule_links P j b in
      let x = width_most s k (rule_a rs j) P.widths (omega arith) in
      let y = width_most s k (rule_b rs j) P.widths o.1 in
      omega arith

  pub freq_small : (l v : ℕ) → l < k → InLink s l v → (0 < freq fs v) × (freq fs v ≤ most_khz)
  freq_small l v b i = freq_range s fs k l v P.freqs b i
