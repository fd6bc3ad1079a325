-- Why a sheet is refused: the table's causes 1 to 8, with 16 after 5, "in the order tested", and their numbers.
use Rattle.std.specs.Prelude.{ℕ, List, Bool, true, false, ◌&&◌, length, ltb, leb, eqb, Result, Ok, Err}
use Rattle.wire.specs.Fields.{le32}
use Rattle.sheet_rows.specs.Form.{form_of}
use Rattle.sheet_rows.specs.Rows.{header_bytes, link_bytes}
use Rattle.rule_sections.specs.Rules.{most_rules, most_pairs, rules_ok, pairs_ok}
use Rattle.sheet.specs.Sheet.{k_of, n_of, q_of, t_of, freqs_at, rules_at, pairs_at, end_at}
use Rattle.sheet.specs.Sheet.{freq_part, rule_part, pair_part, links_ok, widths_ok, freqs_ok}
use Rattle.sheet.specs.declared.Cause.{Cause}
use Rattle.sheet.specs.declared.Cause.TheVariants.{Form, Links, Counts, Offsets}
use Rattle.sheet.specs.declared.Cause.TheVariants.{LinkRow, Width, Frequency, RuleRow, PairRow}

-- the paper's number for each cause
abbrev pub cause_number : Cause → ℕ
cause_number Form = 1
cause_number Links = 2
cause_number Counts = 3
cause_number Offsets = 4
cause_number LinkRow = 5
cause_number Width = 16
cause_number Frequency = 6
cause_number RuleRow = 7
cause_number PairRow = 8

-- the paper's number for each answer of the reader: 0 accepts, and no cause has it
abbrev pub number_of : Result (Unit {0}) Cause → ℕ
number_of (Ok _) = 0
number_of (Err cause) = cause_number cause

-- 1: "under 40 bytes", or a form that there is not
unfoldable pub form_ok : List ℕ → Bool
form_ok s = leb header_bytes (length s) && (form_of s).known

-- 2: "k = 0", or above the form's limit
unfoldable pub link_count_ok : List ℕ → Bool
link_count_ok s = ltb 0 (k_of s) && leb (k_of s) (form_of s).links

-- 3: "n, q or t beyond its limit", that of n by the form
unfoldable pub counts_ok : List ℕ → Bool
counts_ok s = ltb 0 (n_of s) && leb (n_of s) (form_of s).freqs && leb (q_of s) most_rules && leb (t_of s) most_pairs

-- 4: "offset or length wrong"
unfoldable pub table_ok : List ℕ → Bool
table_ok s =
    eqb (le32 s 20) header_bytes && eqb (le32 s 24) (freqs_at (link_bytes s) (k_of s))
    && eqb (le32 s 28) (rules_at (link_bytes s) (k_of s) (n_of s))
    && eqb (le32 s 32) (pairs_at (link_bytes s) (k_of s) (n_of s) (q_of s))
    && eqb (le32 s 36) (end_at (link_bytes s) (k_of s) (n_of s) (q_of s) (t_of s))

-- "equal to the bytes lent"
unfoldable pub offsets_ok : List ℕ → Bool
offsets_ok s = table_ok s && eqb (length s) (end_at (link_bytes s) (k_of s) (n_of s) (q_of s) (t_of s))

-- a cause where a test fails, else what comes after, which is looked at only then
abbrev pub passing : Bool → ℕ → (Unit {0} → ℕ) → ℕ
passing false cause after = cause
passing true cause after = after tt

-- a cause where a test fails, else 0
unfoldable pub unless : Bool → ℕ → ℕ
unless true cause = 0
unless false cause = cause

-- 5: "link row or sum", 16: "width out of range, tested when all of 5 has passed", 6: "frequency range or order",
-- 7: "rule row or sum", 8: "pair row"
unfoldable pub section_cause : List ℕ → ℕ
section_cause s =
    passing (links_ok s (k_of s) (n_of s)) 5 λ _.
    passing (widths_ok s (k_of s)) 16 λ _.
    passing (freqs_ok s (freq_part s) (k_of s)) 6 λ _.
    passing (rules_ok (rule_part s) (k_of s) (q_of s) (t_of s)) 7 λ _.
    unless (pairs_ok s (rule_part s) (pair_part s) (q_of s)) 8

-- the first cause that refuses a sheet, or 0
unfoldable pub refusal : List ℕ → ℕ
refusal s =
    passing (form_ok s) 1 λ _.
    passing (link_count_ok s) 2 λ _.
    passing (counts_ok s) 3 λ _.
    passing (offsets_ok s) 4 λ _.
    section_cause s
