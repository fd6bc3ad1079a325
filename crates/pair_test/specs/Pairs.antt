-- The pair test: how much spacing a vertex of each of two links has to spare, under their rule or without one. It
-- "hands back a signed number of half kHz".
use Rattle.std.specs.Prelude.{ℕ, zero, suc, ◌+◌, ◌-◌, List, Bool, cond, ◌&&◌, eqb, ℤ}
use Rattle.sets.specs.Below.{any}
use Rattle.spacing.specs.Spacing.{distance, spare_by, spare_without}
use Rattle.sheet_rows.specs.Rows.{link_first, link_width, freq, rule_a, rule_b, rule_kind, rule_count, rule_value}
use Rattle.sheet_rows.specs.Rows.{pair_first, pair_second}

-- pair row i is the pair of positions x and y
unfoldable pub same_pair : List ℕ → ℕ → ℕ → ℕ → Bool
same_pair p x y i = eqb (pair_first p i) x && eqb (pair_second p i) y

-- the pair of positions stands among `count` pair rows from `base` on
unfoldable pub lists_pair : List ℕ → ℕ → ℕ → ℕ → ℕ → Bool
lists_pair p base count x y = any count (λ i. same_pair p x y (base + i))

-- the widths of the two links of rule row j together
unfoldable pub rule_widths : List ℕ → List ℕ → ℕ → ℕ
rule_widths s rs j = link_width s (rule_a rs j) + link_width s (rule_b rs j)

-- rule row j is of the links a and b, a being its lower one
unfoldable pub of_links : List ℕ → ℕ → ℕ → ℕ → Bool
of_links rs a b j = eqb (rule_a rs j) a && eqb (rule_b rs j) b

-- what vertices u and v have to spare without a rule
unfoldable pub spare_free : List ℕ → ℕ → ℕ → ℤ
spare_free fs u v = spare_without (distance (freq fs u) (freq fs v))

-- the sheet, whose form says what its link rows have, and its frequency, rule and pair sections
module _ (s fs rs ps : List ℕ) where
  -- what rule row j leaves vertex u, of its link a, and vertex v, of its link b
  unfoldable pub spare_row : ℕ → ℕ → ℕ → ℤ
  spare_row j u v =
      spare_by (rule_kind rs j) (rule_value rs j) (rule_widths s rs j) (distance (freq fs u) (freq fs v))
      (lists_pair ps (rule_value rs j) (rule_count rs j) (u - link_first s (rule_a rs j)) (v - link_first s (rule_b rs j)))

  -- the pair test, of vertex u of link a and vertex v of link b under the first m rules: what the rule of the links
  -- leaves, whichever of them is the lower, or what is left without one
  unfoldable pub spare : ℕ → ℕ → ℕ → ℕ → ℕ → ℤ
  spare zero a b u v = spare_free fs u v
  spare (suc m) a b u v =
      cond (of_links rs a b m) (spare_row m u v) (cond (of_links rs b a m) (spare_row m v u) (spare m a b u v))
