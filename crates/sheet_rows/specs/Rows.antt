-- The fields of a row. A section is the list of bytes that begins at its offset; rows are numbered from 0 within it.
use Rattle.std.specs.Prelude.{ℕ, ◌+◌, ◌*◌, ◌≤◌, cond, List, leb, length, drop}
use Rattle.wire.specs.Fields.{le16, le32}
use Rattle.sheet_rows.specs.Form.{form_of}

-- the section p has row i, where a row takes so many bytes
abbrev pub HasRow : ℕ → List ℕ → ℕ → Type 0
HasRow bytes p i = bytes * i + bytes ≤ length p

-- "Link row: 16-bit first frequency, 16-bit count", and "8-byte link rows, with a 32-bit width in kHz": the fields of
-- row l of a link section whose rows have so many bytes; a shorter row has the width 0
abbrev pub row_first : ℕ → List ℕ → ℕ → ℕ
row_first bytes p l = le16 p (bytes * l)

abbrev pub row_count : ℕ → List ℕ → ℕ → ℕ
row_count bytes p l = le16 p (bytes * l + 2)

abbrev pub row_width : ℕ → List ℕ → ℕ → ℕ
row_width bytes p l = cond (leb 8 bytes) (le32 p (bytes * l + 4)) 0

-- "The header has ten 32-bit fields", and the link section follows it
abbrev pub header_bytes : ℕ
header_bytes = 40

abbrev pub link_part : List ℕ → List ℕ
link_part s = drop header_bytes s

abbrev pub link_bytes : List ℕ → ℕ
link_bytes s = (form_of s).bytes

-- the same fields of link l of a sheet, whose form says how long the rows are
unfoldable pub link_first : List ℕ → ℕ → ℕ
link_first s l = row_first (link_bytes s) (link_part s) l

unfoldable pub link_count : List ℕ → ℕ → ℕ
link_count s l = row_count (link_bytes s) (link_part s) l

unfoldable pub link_width : List ℕ → ℕ → ℕ
link_width s l = row_width (link_bytes s) (link_part s) l

-- the sheet has k link rows, and has link row l
abbrev pub HasLinks : List ℕ → ℕ → Type 0
HasLinks s k = header_bytes + link_bytes s * k ≤ length s

abbrev pub HasLink : List ℕ → ℕ → Type 0
HasLink s l = header_bytes + (link_bytes s * l + link_bytes s) ≤ length s

-- "Frequency: 32 bits": the v-th of the sheet
abbrev pub freq_bytes : ℕ
freq_bytes = 4

abbrev pub freq : List ℕ → ℕ → ℕ
freq p v = le32 p (freq_bytes * v)

-- "Rule row: 16-bit links a and b .., 16-bit kind, 16-bit count, 32-bit value"
abbrev pub rule_bytes : ℕ
rule_bytes = 12

abbrev pub rule_a : List ℕ → ℕ → ℕ
rule_a p j = le16 p (rule_bytes * j)

abbrev pub rule_b : List ℕ → ℕ → ℕ
rule_b p j = le16 p (rule_bytes * j + 2)

abbrev pub rule_kind : List ℕ → ℕ → ℕ
rule_kind p j = le16 p (rule_bytes * j + 4)

abbrev pub rule_count : List ℕ → ℕ → ℕ
rule_count p j = le16 p (rule_bytes * j + 6)

abbrev pub rule_value : List ℕ → ℕ → ℕ
rule_value p j = le32 p (rule_bytes * j + 8)

-- "Pair row: 16-bit positions"
abbrev pub pair_bytes : ℕ
pair_bytes = 4

abbrev pub pair_first : List ℕ → ℕ → ℕ
pair_first p i = le16 p (pair_bytes * i)

abbrev pub pair_second : List ℕ → ℕ → ℕ
pair_second p i = le16 p (pair_bytes * i + 2)
