-- "Form 1 keeps its rule, and each sheet is judged by its own form."
use Rattle.std.specs.Prelude.{ℕ, ◌+◌, ◌*◌, ◌≡◌, List, true, leb, drop}
use Rattle.wire.specs.Fields.{le16, le32}
use Rattle.sheet_rows.specs.Form.{form_of}
use Rattle.sheet_rows.specs.Rows.{link_first, link_count, freq, rule_kind, rule_value}
use Rattle.sheet.specs.Sheet.{k_of, n_of, q_of, widths_ok, freq_part, rule_part, pair_part}
use Rattle.spacing.specs.Spacing.{distance, zero_or_more}
use Rattle.pair_test.specs.Pairs.{spare_row}

-- A sheet of form 1 is read and judged as document 01 says, so that all definitions give what they gave: its form is
-- known, "k is 1 to 64, n 1 to 512", a link row is "16-bit first frequency, 16-bit count" in four bytes, "the offsets
-- are 40, 40 + 4k, that + 4n, that + 12q", no width refuses it, and for kind 1 "the frequencies differ by at least
-- value"
pub record FormOne (s : List ℕ) : Type 0 where
  pub known : (form_of s).known ≡ true
  pub links : (form_of s).links ≡ 64
  pub freqs : (form_of s).freqs ≡ 512
  pub first : (l : ℕ) → link_first s l ≡ le16 (drop 40 s) (4 * l)
  pub count : (l : ℕ) → link_count s l ≡ le16 (drop 40 s) (4 * l + 2)
  pub freqs_from : freq_part s ≡ drop (40 + 4 * k_of s) s
  pub rules_from : rule_part s ≡ drop (40 + 4 * k_of s + 4 * n_of s) s
  pub pairs_from : pair_part s ≡ drop (40 + 4 * k_of s + 4 * n_of s + 12 * q_of s) s
  pub widths : (k : ℕ) → widths_ok s k ≡ true
  pub kind_1 : (fs rs ps : List ℕ) (j u v : ℕ) → rule_kind rs j ≡ 1
      → zero_or_more (spare_row s fs rs ps j u v) ≡ leb (rule_value rs j) (distance (freq fs u) (freq fs v))

pub record FormOneKeepsItsRule : Type 0 where
  pub form_1 : (s : List ℕ) → le32 s 0 ≡ 1 → FormOne s
