-- The import of a graph text and a count text.
use Rattle.std.specs.Prelude.{Bool, true, false, ◌&&◌, List, [], ℕ, leb, eqb, length}
use Rattle.sets.specs.Sets.{Set}
use Rattle.rule_sections.specs.Rules.{most_pairs}
use Rattle.sheet.specs.Sheet.{end_at}
use Rattle.sheet.specs.Refusal.{unless}
use Rattle.zeros.specs.Zeros.{zeros}
use Rattle.output.specs.Output.{padded}
use Rattle.dimacs.specs.Reading.{vertices_of, Texts, malformed, clashed, texts, texts_of}
use Rattle.dimacs.specs.Made.{made_bytes, joined, rule_total, pair_total, sheet_of}

-- the adjacency that the texts say
abbrev pub text_graph : List ℕ → Set → ℕ → ℕ → Bool
text_graph cs E = joined (vertices_of cs) E

-- the bytes of the sheet of the texts
unfoldable pub sheet_bytes : List ℕ → Set → ℕ
sheet_bytes cs E =
    end_at made_bytes (length cs) (vertices_of cs) (rule_total cs (text_graph cs E)) (pair_total cs (text_graph cs E))

-- "15 more than 8,192 kind 3 pairs or a lent output too short"
unfoldable pub sheet_fits : List ℕ → Set → ℕ → Bool
sheet_fits cs E room = leb (pair_total cs (text_graph cs E)) most_pairs && leb (sheet_bytes cs E) room

-- 13, 14 and 15 in this order, or 0
unfoldable pub texts_cause : Texts → ℕ → ℕ
texts_cause malformed room = 13
texts_cause clashed room = 14
texts_cause (texts cs E) room = unless (sheet_fits cs E room) 15

unfoldable pub import_cause : List ℕ → List ℕ → ℕ → ℕ
import_cause text counts room = texts_cause (texts_of text counts) room

-- the sheet of two texts
unfoldable pub sheet_by : Texts → List ℕ
sheet_by malformed = []
sheet_by clashed = []
sheet_by (texts cs E) = sheet_of cs (text_graph cs E)

unfoldable pub imported_sheet : List ℕ → List ℕ → List ℕ
imported_sheet text counts = sheet_by (texts_of text counts)

-- what the call gives: 0 or the cause, the length, and every byte of the output
pub record ImportOutcome : Type 0 where
  pub answer : ℕ
  pub length : ℕ
  pub sheet : List ℕ

-- of what was read, in an output of so many bytes
unfoldable pub import_of : Texts → ℕ → ImportOutcome
import_of w room = elim (eqb (texts_cause w room) 0) [
  | true ↦ record { answer = 0; length = length (sheet_by w); sheet = padded (sheet_by w) room }
  | false ↦ record { answer = texts_cause w room; length = 0; sheet = zeros room }
]

unfoldable pub imported : List ℕ → List ℕ → ℕ → ImportOutcome
imported text counts room = import_of (texts_of text counts) room
