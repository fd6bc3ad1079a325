-- What the pair test asks of a sheet, and what it says of it: the definitions at its own sections.
use Rattle.std.specs.Prelude.{ℕ, ◌-◌, ◌≤◌, ◌<◌, ◌≡◌, List, Bool, true, false, ℤ}
use Rattle.sheet_rows.specs.Rows.{link_first, rule_a, rule_b, rule_count, rule_value}
use Rattle.rule_sections.specs.Rules.{before}
use Rattle.sheet.specs.Sheet.{k_of, q_of, freq_part, rule_part, pair_part}
use Rattle.sheet.specs.Accepted.{Accepted}
use Rattle.pair_test.specs.Layers.{InLink}
use Rattle.pair_test.specs.Pairs.{lists_pair, spare_row, spare}

module _ (s : List ℕ) where
  -- rule row j lists the positions of vertex u, of its link a, and vertex v, of its link b
  abbrev pub row_lists : ℕ → ℕ → ℕ → Bool
  row_lists j u v =
      lists_pair (pair_part s) (rule_value (rule_part s) j) (rule_count (rule_part s) j)
      (u - link_first s (rule_a (rule_part s) j)) (v - link_first s (rule_b (rule_part s) j))

  -- what it leaves them to spare
  abbrev pub spare_of_row : ℕ → ℕ → ℕ → ℤ
  spare_of_row = spare_row s (freq_part s) (rule_part s) (pair_part s)

  -- the pair test of vertex u of link a and vertex v of link b
  abbrev pub spare_in : ℕ → ℕ → ℕ → ℕ → ℤ
  spare_in = spare s (freq_part s) (rule_part s) (pair_part s) (q_of s)

-- rows "rise strictly by (a, b)": the rules before j come before the links a and b
pub record ComeBefore (rs : List ℕ) (a b j : ℕ) : Type 0 where
  pub each : (i : ℕ) → i < j → before (rule_a rs i) (rule_b rs i) a b ≡ true

-- and rule j, if there is one, does not: it is of these links, or no rule is
pub record Sought (rs : List ℕ) (q a b j : ℕ) : Type 0 where
  pub within : j ≤ q
  pub earlier : ComeBefore rs a b j
  pub here : j < q → before (rule_a rs j) (rule_b rs j) a b ≡ false

-- a rule row of an accepted sheet, with vertex u of its link a and vertex v of its link b
pub record RowAt (s : List ℕ) (j u v : ℕ) : Type 0 where
  pub accepted : Accepted s
  pub among : j < q_of s
  pub in_a : InLink s (rule_a (rule_part s) j) u
  pub in_b : InLink s (rule_b (rule_part s) j) v

-- vertex u of link a and vertex v of a higher link b of an accepted sheet, with the place of their rule
pub record PairAt (s : List ℕ) (j a b u v : ℕ) : Type 0 where
  pub accepted : Accepted s
  pub order : a < b
  pub within : b < k_of s
  pub sought : Sought (rule_part s) (q_of s) a b j
  pub in_a : InLink s a u
  pub in_b : InLink s b v

-- vertices u and v of two links a and b of an accepted sheet
pub record TwoAt (s : List ℕ) (a b u v : ℕ) : Type 0 where
  pub accepted : Accepted s
  pub apart : a ≡ b → ⊥
  pub link_a : a < k_of s
  pub link_b : b < k_of s
  pub in_a : InLink s a u
  pub in_b : InLink s b v
