-- Calls from a console and from a desk: "planning and checking with numbers and byte slices, cells as bytes, four a
-- cell, little-endian".
use Rattle.std.specs.Prelude.{◌≡◌, List, ℕ, ◌+◌, ◌*◌, ◌/◌, ◌^◌, length}
use Rattle.sets.specs.Below.{tabulate}
use Rattle.wire.specs.Fields.{le32}
use Rattle.number_bytes.specs.NumberBytes.{number_bytes}
use Rattle.sheet_rows.specs.Form.{hall_words, most_words}
use Rattle.rules.specs.Job.{Job}
use Rattle.rules.specs.Plans.{checked}
use Rattle.setting.specs.Setting.{Setting}
use Rattle.planner.specs.Outcome.{Outcome, outcome}
use Rattle.hall_plan.specs.Hall.{hall_outcome}

-- "one 64-bit number: the nodes plus 2^32 times the refusal number, or times 100 for found, 101 for no plan, 102 for
-- stopped"
unfoldable pub call_number : Outcome → ℕ
call_number o = o.nodes + 2 ^ 32 * o.answer

-- cells as bytes, and zeros past them: "Planning zeroes a remainder of up to three bytes"
abbrev pub cell_bytes : List ℕ → ℕ → List ℕ
cell_bytes = number_bytes 4

-- the number r and the bytes that are left are those of an outcome, with `room` bytes for its cells
pub record Handed (o : Outcome) (room r : ℕ) (left : List ℕ) : Type 0 where
  pub number : r ≡ call_number o
  pub bytes : left ≡ cell_bytes o.cells room

-- cell l in some bytes, and all of them: a remainder "neither call counts"
unfoldable pub cell_in : List ℕ → ℕ → ℕ
cell_in bytes l = le32 bytes (4 * l)

unfoldable pub cells_in : List ℕ → List ℕ
cells_in bytes = tabulate (length bytes / 4) (cell_in bytes)

-- the planning calls with `room` bytes for their cells, each with "work words of its own, so 11 does not arise there":
-- the desk's, which has as many as any form needs, and the console's, "whose buffers stay small"
unfoldable pub outcome_in : Job → Setting → ℕ → Outcome
outcome_in job x room = outcome job x (room / 4) most_words

unfoldable pub hall_outcome_in : Job → Setting → ℕ → Outcome
hall_outcome_in job x room = hall_outcome job x (room / 4) hall_words

-- "Checking returns 0 for no, 100 for yes, or the refusal number"
unfoldable pub checked_in : Job → List ℕ → ℕ
checked_in job bytes = checked job (cells_in bytes)
