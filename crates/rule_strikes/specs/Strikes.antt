-- What one rule row leaves in the rows of one of its links: of its other link, the vertices that it allows.
use Rattle.std.specs.Prelude.{◌≡◌, Bool, false, not, cond, ◌&&◌, List, ℕ, ◌+◌, ◌-◌, ◌*◌, ◌^◌, ◌≤◌, ◌<◌, ltb, leb, eqb, length}
use Rattle.sets.specs.Sets.{Set, ◌⊆◌, ◌∩◌, ◌∪◌, ◌∖◌}
use Rattle.sheet_rows.specs.Rows.{freq_bytes, pair_bytes, link_first, link_count, link_width, freq}
use Rattle.sheet_rows.specs.Rows.{rule_kind, rule_count, rule_value, pair_first, pair_second}
use Rattle.spacing.specs.Spacing.{distance, zero_or_more, spare_by}
use Rattle.pair_test.specs.Pairs.{same_pair, lists_pair}
use Rattle.rows.specs.Rows.{row_at, Outside}
use Rattle.rule_strikes.specs.declared.Side.{Side}

-- the numbers from a up to b
unfoldable pub stretch : ℕ → ℕ → Set
stretch a b v = leb a v && ltb v b

-- rule row j seen from its link a, whose rows it changes, to its other link b; turned where a is the higher of the two
abbrev pub side_of : List ℕ → List ℕ → ℕ → Bool → ℕ → ℕ → Side
side_of sheet rs j turned a b = record {
  kind = rule_kind rs j;
  value = rule_value rs j;
  count = rule_count rs j;
  widths = link_width sheet a + link_width sheet b;
  turned = turned;
  from = link_first sheet a;
  upto = link_first sheet a + link_count sheet a;
  first = link_first sheet b;
  end = link_first sheet b + link_count sheet b;
}

-- "positions (from 0) in the lists of a and of b": those of pair row i in the list of the changed rows' link, and in
-- that of the other
unfoldable pub own_place : List ℕ → Bool → ℕ → ℕ
own_place ps turned i = cond turned (pair_second ps i) (pair_first ps i)

unfoldable pub other_place : List ℕ → Bool → ℕ → ℕ
other_place ps turned i = cond turned (pair_first ps i) (pair_second ps i)

-- "Kind 3: only listed pairs are allowed": the partners that m pair rows from `base` on give position x, in the link
-- that begins at `first`. The pair of positions is listed, the lower link's first
unfoldable pub partners : List ℕ → Bool → ℕ → ℕ → ℕ → ℕ → Set
partners ps turned first x base m v =
    leb first v && cond turned (lists_pair ps base m (v - first) x) (lists_pair ps base m x (v - first))

-- the partner that pair row i gives it
unfoldable pub partner : List ℕ → Bool → ℕ → ℕ → ℕ → Set
partner ps turned first x i v = leb first v && cond turned (same_pair ps (v - first) x i) (same_pair ps x (v - first) i)

-- kinds 1 and 2: the vertices that such a rule does not allow with the frequency x
unfoldable pub clashing : List ℕ → Side → ℕ → Set
clashing fs s x v = not (zero_or_more (spare_by s.kind s.value s.widths (distance x (freq fs v)) false))

-- the vertices of the other link that the rule allows with u
unfoldable pub allowed : List ℕ → List ℕ → Side → ℕ → Set
allowed fs ps s u =
    cond (eqb s.kind 3)
    (stretch s.first s.end ∩ partners ps s.turned s.first (u - s.from) s.value s.count)
    (stretch s.first s.end ∖ clashing fs s (freq fs u))

-- row u under the rule: of the other link just these
abbrev pub under_rule : List ℕ → List ℕ → Side → ℕ → Set → Set
under_rule fs ps s u S = (S ∖ stretch s.first s.end) ∪ allowed fs ps s u

-- the pairs are there, and name vertices of the other link
abbrev pub PairsFit : List ℕ → Side → Type 0
PairsFit ps s = (i : ℕ) → i < s.count →
    (pair_bytes * (s.value + i) + pair_bytes ≤ length ps)
    × (s.first + other_place ps s.turned (s.value + i) < s.end)

-- the value of the rule and the widths are 32-bit numbers
abbrev pub NumbersFit : Side → Type 0
NumbersFit s = (s.value < 2 ^ 32) × (s.widths < 2 ^ 32)

-- the vertices of both links are among n, and so are those that the pairs name
pub record SideFits (fs ps : List ℕ) (n : ℕ) (s : Side) : Type 0 where
  pub freqs : freq_bytes * n ≤ length fs
  pub own : s.upto ≤ n
  pub order : s.first ≤ s.end
  pub other : s.end ≤ n
  pub pairs : s.kind ≡ 3 → PairsFit ps s
  pub plain : (s.kind ≡ 3 → ⊥) → NumbersFit s

-- each row that the rule changes has every vertex of the other link that it allows, where it is of kind 1 or 2: such a
-- rule strikes, and one of kind 3 writes the other link's part of a row anew
pub record Full (fs ps : List ℕ) (s : Side) (w graph : ℕ) (p : List ℕ) : Type 0 where
  pub row : (s.kind ≡ 3 → ⊥) → (u : ℕ) → s.from ≤ u → u < s.upto → allowed fs ps s u ⊆ row_at p w graph u

-- each row x from lo up to hi has become f x of what it was, and nothing but these rows has changed
pub record Rewritten (f : ℕ → Set → Set) (lo hi w graph n : ℕ) (p p' : List ℕ) : Type 0 where
  pub rows : (x : ℕ) → lo ≤ x → x < hi → row_at p' w graph x ≡ f x (row_at p w graph x)
  pub others : (x : ℕ) → x < n → (lo ≤ x → x < hi → ⊥) → row_at p' w graph x ≡ row_at p w graph x
  pub rest : Outside graph (graph + n * w) p p'
