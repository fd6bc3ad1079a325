-- Fields of a sheet, written at a place: "unsigned, little-endian, 16 or 32 bits". A place past the last number a word
-- holds wraps.
use Rattle.std.specs.Prelude.{ℕ, ◌+◌, ◌*◌, ◌/◌, ◌%◌, ◌^◌, List, slice_index, slice_set}

abbrev pub half_at : List ℕ → ℕ → ℕ → List ℕ
half_at l at x = slice_set (slice_set l at (x % 256)) ((at + 1) % 2 ^ 64) (x / 256 % 256)

abbrev pub word_at : List ℕ → ℕ → ℕ → List ℕ
word_at l at x = half_at (half_at l at x) ((at + 2) % 2 ^ 64) (x / 65536)

-- two numbers side by side, and the five of a rule's row
abbrev pub pair_at : List ℕ → ℕ → ℕ → ℕ → List ℕ
pair_at l at x y = slice_set (slice_set l at x) ((at + 1) % 2 ^ 64) y

abbrev pub rule_at : List ℕ → ℕ → ℕ → ℕ → ℕ → ℕ → ℕ → List ℕ
rule_at l at a b kind m value =
    slice_set (slice_set (slice_set (pair_at l at a b) ((at + 2) % 2 ^ 64) kind) ((at + 3) % 2 ^ 64) m) ((at + 4) % 2 ^ 64) value

-- the widths of two links together, 0 in form 1: a job's widths stand from 49538 on, and 0 for form 1 or 1 at 49667
abbrev pub widths_of : List ℕ → ℕ → ℕ → ℕ
widths_of job a b = slice_index job 49667 % 65536 *
    ((slice_index job ((49538 + a) % 2 ^ 64) + slice_index job ((49538 + b) % 2 ^ 64)) % 2 ^ 64 % 65536)

-- the bytes of a link's row
abbrev pub link_bytes : List ℕ → ℕ
link_bytes job = (4 + 4 * (slice_index job 49667 % 65536)) % 2 ^ 64

-- the bytes of a job's sheet: k, n, q and t stand at 1300 to 1303
unfoldable pub sheet_length : List ℕ → ℕ
sheet_length job =
    (((((((40 + link_bytes job % 65536 * (slice_index job 1300 % 65536)) % 2 ^ 64) + 4 * (slice_index job 1301 % 65536)) % 2 ^ 64) +
    12 * (slice_index job 1302 % 65536)) % 2 ^ 64) + 4 * (slice_index job 1303 % 65536)) % 2 ^ 64
