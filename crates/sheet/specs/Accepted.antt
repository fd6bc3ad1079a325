-- What an accepted sheet guarantees.
use Rattle.std.specs.Prelude.{ℕ, ◌≤◌, ◌<◌, ◌≡◌, List, true, length}
use Rattle.sheet_rows.specs.Form.{form_of, most_links, most_freqs}
use Rattle.sheet_rows.specs.Rows.{header_bytes, link_bytes}
use Rattle.rule_sections.specs.Rules.{most_rules, most_pairs, rules_ok, pairs_ok}
use Rattle.sheet.specs.Sheet.{k_of, n_of, q_of, t_of, end_at}
use Rattle.sheet.specs.Sheet.{freq_part, rule_part, pair_part, links_ok, widths_ok, freqs_ok}

-- what the header's four tests say
pub record Head (s : List ℕ) : Type 0 where
  -- k and n are at least 1, and at most what the form allows, and what every form keeps to; "q at most 2,016, t at most
  -- 8,192"
  pub k_some : 0 < k_of s
  pub k_few : k_of s ≤ (form_of s).links
  pub k_small : k_of s ≤ most_links
  pub n_some : 0 < n_of s
  pub n_few : n_of s ≤ (form_of s).freqs
  pub n_small : n_of s ≤ most_freqs
  pub q_small : q_of s ≤ most_rules
  pub t_small : t_of s ≤ most_pairs
  -- the header is there, and the sections fill the sheet
  pub long : header_bytes ≤ length s
  pub whole : length s ≡ end_at (link_bytes s) (k_of s) (n_of s) (q_of s) (t_of s)

pub record Accepted (s : List ℕ) : Type 0 where
  pub head : Head s
  -- the rows are right
  pub links : links_ok s (k_of s) (n_of s) ≡ true
  pub widths : widths_ok s (k_of s) ≡ true
  pub freqs : freqs_ok s (freq_part s) (k_of s) ≡ true
  pub rules : rules_ok (rule_part s) (k_of s) (q_of s) (t_of s) ≡ true
  pub pairs : pairs_ok s (rule_part s) (pair_part s) (q_of s) ≡ true
