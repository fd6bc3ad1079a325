-- The job sheet, as a list of bytes: its header, where its sections begin, and what link and frequency rows have to
-- say. The rows' fields are those of `Rows`, and what goes by the form is in `Form`, crate `sheet_rows`; rule and pair
-- rows are in `Rules`, crate `rule_sections`.
use Rattle.std.specs.Prelude.{ℕ, ◌+◌, ◌-◌, ◌*◌, List, Bool, not, ◌&&◌, ◌||◌, drop, ltb, leb, eqb, Option, Some, None}
use Rattle.sets.specs.Below.{all, sum_to}
use Rattle.wire.specs.Fields.{le32}
use Rattle.sheet_rows.specs.Rows.{header_bytes, link_bytes, link_part, freq_bytes, rule_bytes, pair_bytes}
use Rattle.sheet_rows.specs.Rows.{row_first, row_count, row_width, link_first, link_count, freq}
use Rattle.rule_sections.specs.Rules.{most_khz, only}
use Rattle.sheet.specs.declared.Row.{Row}

-- "a 32-bit width in kHz, 1 to 20,000"
abbrev pub most_width : ℕ
most_width = 20000

-- the header: "form (1), links k, frequencies n, rules q, pairs t", then offsets and length
abbrev pub k_of : List ℕ → ℕ
k_of s = le32 s 4

abbrev pub n_of : List ℕ → ℕ
n_of s = le32 s 8

abbrev pub q_of : List ℕ → ℕ
q_of s = le32 s 12

abbrev pub t_of : List ℕ → ℕ
t_of s = le32 s 16

-- "the offsets are 40, 40 + 4k, that + 4n, that + 12q, and the length is that + 4t", with link rows of 4 bytes; of
-- longer ones "later offsets move"
abbrev pub freqs_at : ℕ → ℕ → ℕ
freqs_at bytes k = header_bytes + bytes * k

abbrev pub rules_at : ℕ → ℕ → ℕ → ℕ
rules_at bytes k n = freqs_at bytes k + freq_bytes * n

abbrev pub pairs_at : ℕ → ℕ → ℕ → ℕ → ℕ
pairs_at bytes k n q = rules_at bytes k n + rule_bytes * q

abbrev pub end_at : ℕ → ℕ → ℕ → ℕ → ℕ → ℕ
end_at bytes k n q t = pairs_at bytes k n q + pair_bytes * t

-- "Each section is read as the part of the sheet that begins at its offset"; the first is `link_part`
abbrev pub freq_part : List ℕ → List ℕ
freq_part s = drop (freqs_at (link_bytes s) (k_of s)) s

abbrev pub rule_part : List ℕ → List ℕ
rule_part s = drop (rules_at (link_bytes s) (k_of s) (n_of s)) s

abbrev pub pair_part : List ℕ → List ℕ
pair_part s = drop (pairs_at (link_bytes s) (k_of s) (n_of s) (q_of s)) s

-- link rows, of so many bytes each

-- "First is the sum of earlier counts; count is at least 1", where `sum` is that sum
abbrev pub link_row_ok : ℕ → List ℕ → ℕ → ℕ → Bool
link_row_ok bytes p l sum = eqb (row_first bytes p l) sum && ltb 0 (row_count bytes p l)

unfoldable pub link_ok : ℕ → List ℕ → ℕ → Bool
link_ok bytes p l = link_row_ok bytes p l (sum_to l (row_count bytes p))

-- "all counts sum to n"
unfoldable pub link_rows_ok : ℕ → List ℕ → ℕ → ℕ → Bool
link_rows_ok bytes p k n = all k (link_ok bytes p) && eqb (sum_to k (row_count bytes p)) n

-- "a 32-bit width in kHz, 1 to 20,000", where the rows have one
unfoldable pub width_ok : ℕ → List ℕ → ℕ → Bool
width_ok bytes p l = ltb bytes 8 || (ltb 0 (row_width bytes p l) && leb (row_width bytes p l) most_width)

unfoldable pub width_rows_ok : ℕ → List ℕ → ℕ → Bool
width_rows_ok bytes p k = all k (width_ok bytes p)

-- the link section of a sheet, of k links and n frequencies, and its widths
unfoldable pub links_ok : List ℕ → ℕ → ℕ → Bool
links_ok s k n = link_rows_ok (link_bytes s) (link_part s) k n

unfoldable pub widths_ok : List ℕ → ℕ → Bool
widths_ok s k = width_rows_ok (link_bytes s) (link_part s) k

-- a link row that was read: the paper's number, 0 or refusal 5, and the row's first frequency and count, both 0 where
-- it is refused
pub record RowRead : Type 0 where
  pub number : ℕ
  pub first : ℕ
  pub count : ℕ

-- what a row that was read says, or none
abbrev pub row_read : Option Row → RowRead
row_read (Some row) = record { number = 0; first = row.first; count = row.count }
row_read None = record { number = 5; first = 0; count = 0 }

-- refusal 5 unless a row is right, and its fields only then
abbrev pub row_if : Bool → ℕ → ℕ → RowRead
row_if right first count =
    record { number = only (not right) 5; first = only right first; count = only right count }

-- what row l is to say, where `sum` is the sum of earlier counts
abbrev pub link_row : ℕ → List ℕ → ℕ → ℕ → RowRead
link_row bytes p l sum = row_if (link_row_ok bytes p l sum) (row_first bytes p l) (row_count bytes p l)

-- frequencies

-- "1 to 9,999,999, strictly rising within a link": the i-th of a link whose first is at base
unfoldable pub freq_ok : List ℕ → ℕ → ℕ → Bool
freq_ok p base i =
    ltb 0 (freq p (base + i)) && leb (freq p (base + i)) most_khz
    && (eqb i 0 || ltb (freq p (base + i - 1)) (freq p (base + i)))

-- the frequencies of link l of the sheet, whose frequency section is p
unfoldable pub link_freqs_ok : List ℕ → List ℕ → ℕ → Bool
link_freqs_ok s p l = all (link_count s l) (freq_ok p (link_first s l))

unfoldable pub freqs_ok : List ℕ → List ℕ → ℕ → Bool
freqs_ok s p k = all k (link_freqs_ok s p)
