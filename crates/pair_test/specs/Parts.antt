-- An accepted sheet, in which links are looked up, and its other three sections with its four counts.
use Rattle.std.specs.Prelude.{ℕ, ◌*◌, ◌≤◌, ◌<◌, ◌≡◌, List, true, length}
use Rattle.sheet_rows.specs.Form.{most_links, most_freqs}
use Rattle.sheet_rows.specs.Rows.{HasLinks, freq_bytes, rule_bytes, pair_bytes}
use Rattle.rule_sections.specs.Rules.{rules_ok, pairs_ok}
use Rattle.sheet.specs.Sheet.{links_ok, widths_ok, freqs_ok}

pub record Parts (s fs rs ps : List ℕ) (k n q t : ℕ) : Type 0 where
  -- k and n are at least 1, and at most what every form keeps to
  pub k_some : 0 < k
  pub k_small : k ≤ most_links
  pub n_some : 0 < n
  pub n_small : n ≤ most_freqs
  -- the rows are there
  pub has_link_rows : HasLinks s k
  pub has_freq_rows : freq_bytes * n ≤ length fs
  pub has_rule_rows : rule_bytes * q ≤ length rs
  pub has_pair_rows : pair_bytes * t ≤ length ps
  -- the rows are right
  pub links : links_ok s k n ≡ true
  pub widths : widths_ok s k ≡ true
  pub freqs : freqs_ok s fs k ≡ true
  pub rules : rules_ok rs k q t ≡ true
  pub pairs : pairs_ok s rs ps q ≡ true

-- the link rows of the sheet are there and right, of k links with n vertices
pub record LinkRows (s : List ℕ) (k n : ℕ) : Type 0 where
  pub n_some : 0 < n
  pub n_small : n ≤ most_freqs
  pub rows : HasLinks s k
  pub links : links_ok s k n ≡ true

-- an accepted sheet and its sections, with q rules, whatever the number of its pairs; and rule row j of one
pub record Sections (s fs rs ps : List ℕ) (k n q : ℕ) : Type 0 where
  pub t : ℕ
  pub parts : Parts s fs rs ps k n q t

pub record RuleRow (s fs rs ps : List ℕ) (k n j : ℕ) : Type 0 where
  pub q : ℕ
  pub t : ℕ
  pub parts : Parts s fs rs ps k n q t
  pub among : j < q
