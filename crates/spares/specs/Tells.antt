-- What a table that is shown tells a display.
use Rattle.std.specs.Prelude.{ℕ, ◌<◌, ◌≡◌, true, List}
use Rattle.sets.specs.Below.{all}
use Rattle.sheet.specs.Sheet.{k_of}
use Rattle.spacing.specs.Spacing.{zero_or_more, in_range}
use Rattle.rules.specs.Job.{Job}
use Rattle.rules.specs.Plans.{cells_of, clear}
use Rattle.spares.specs.Table.{spare_of}
use Rattle.spares.specs.Spares.{answer_for, shown}

-- no number of the table is below zero, and no channel on air covers a cell
pub record NoClash (job : Job) (cells : List ℕ) : Type 0 where
  pub pairs : (a b : ℕ) → a < k_of job.sheet → b < k_of job.sheet
      → zero_or_more (spare_of job.sheet cells a b) ≡ true
  pub free : all (k_of job.sheet) (clear job.channels (cells_of cells)) ≡ true

-- the table reads the same by rows and by columns, its numbers are in their range, and the answer is yes exactly where
-- it is shown and nothing clashes: where the answer is no, it shows which pair does
pub record SparesTell (job : Job) (cells : List ℕ) (room : ℕ) : Type 0 where
  pub turned : (a b : ℕ) → spare_of job.sheet cells a b ≡ spare_of job.sheet cells b a
  pub range : shown job cells room ≡ true → (a b : ℕ) → a < k_of job.sheet → b < k_of job.sheet
      → in_range (spare_of job.sheet cells a b) ≡ true
  pub yes : answer_for job cells room ≡ 100 → (shown job cells room ≡ true) × NoClash job cells
  pub only : shown job cells room ≡ true → NoClash job cells → answer_for job cells room ≡ 100
