-- The forms of sheets: what each allows, how long its link rows are, and the work words that planning it needs. A
-- further form is a further row of `form_by`.
use Rattle.std.specs.Prelude.{ℕ, true, false, cond, List, eqb}
use Rattle.wire.specs.Fields.{le32}
use Rattle.sheet_rows.specs.declared.Form.{Form}

-- what forms 1 and 2 allow, a hall: "k is 1 to 64, n 1 to 512", "Work needs 8,192 words of 64 bits"
abbrev pub hall_links : ℕ
hall_links = 64

abbrev pub hall_freqs : ℕ
hall_freqs = 512

abbrev pub hall_words : ℕ
hall_words = 8192

-- what form 3 allows, and every form keeps to: "Festivals need 128 links and 1,024 frequencies", "It needs 32,768 work
-- words"
abbrev pub most_links : ℕ
most_links = 128

abbrev pub most_freqs : ℕ
most_freqs = 1024

abbrev pub most_words : ℕ
most_words = 32768

-- by its number, whether there is such a form, the bytes of a link row, the most links and frequencies, and the work
-- words: "Form 2 sheets have 8-byte link rows", "Form 3 is form 2 with these two limits"
unfoldable pub form_by : ℕ → Form
form_by number =
    cond (eqb number 1) (record { known = true; bytes = 4; links = hall_links; freqs = hall_freqs; words = hall_words })
    (cond (eqb number 2) (record { known = true; bytes = 8; links = hall_links; freqs = hall_freqs; words = hall_words })
    (cond (eqb number 3) (record { known = true; bytes = 8; links = most_links; freqs = most_freqs; words = most_words })
    (record { known = false; bytes = 4; links = hall_links; freqs = hall_freqs; words = hall_words })))

-- "each sheet is judged by its own form", the first field of its header
abbrev pub form_of : List ℕ → Form
form_of s = form_by (le32 s 0)
