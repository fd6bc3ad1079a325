-- What the checker of the pair section relies on: the sections before it are there and right.
use Rattle.std.specs.Prelude.{ℕ, ◌*◌, ◌≤◌, ◌<◌, ◌≡◌, List, true, length}
use Rattle.sheet_rows.specs.Rows.{HasLinks, rule_bytes, pair_bytes}
use Rattle.rule_sections.specs.Rules.{rules_ok}

-- q rule rows, and the link rows of the sheet and the pair rows that they name
pub record RulesRead (s rs ps : List ℕ) (q : ℕ) : Type 0 where
  pub k : ℕ
  pub t : ℕ
  pub has_link_rows : HasLinks s k
  pub has_rule_rows : rule_bytes * q ≤ length rs
  pub has_pair_rows : pair_bytes * t ≤ length ps
  pub rules : rules_ok rs k q t ≡ true

-- rule row j of such a section
pub record RuleRead (s rs ps : List ℕ) (j : ℕ) : Type 0 where
  pub q : ℕ
  pub among : j < q
  pub read : RulesRead s rs ps q
