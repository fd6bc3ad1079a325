-- The counting call with numbers and byte slices: cells as bytes, four a cell, and counts, eight a count.
use Rattle.std.specs.Prelude.{◌≡◌, List, ℕ, ◌/◌}
use Rattle.rules.specs.Job.{Job}
use Rattle.setting.specs.Setting.{Setting}
use Rattle.sheet_rows.specs.Form.{most_words}
use Rattle.number_bytes.specs.NumberBytes.{number_bytes}
use Rattle.byte_calls.specs.ByteCalls.{Handed}
use Rattle.counting.specs.Outcome.{CountingOutcome, counting_outcome}

-- the number r, the bytes of the cells and those of the counts are those of an outcome, with `room` bytes for its cells
-- and `space` for its counts
pub record CountsHanded (o : CountingOutcome) (room space r : ℕ) (cells counts : List ℕ) : Type 0 where
  pub handed : Handed o.outcome room r cells
  pub bytes : counts ≡ number_bytes 8 o.counts space

-- the counting call with that many bytes, and work words of its own
unfoldable pub counting_in : Job → Setting → ℕ → ℕ → CountingOutcome
counting_in job x room space = counting_outcome job x (room / 4) (space / 8) most_words
