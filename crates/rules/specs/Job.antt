-- A job: its sheet, and the channels on air. What later joins it is a field.
use Rattle.std.specs.Prelude.{Bool, not, ◌&&◌, List, [], ℕ, ltb}
use Rattle.sets.specs.Sets.{Set}
use Rattle.channels.specs.Channels.{on_air}
use Rattle.sheet_rows.specs.Rows.{freq}
use Rattle.sheet.specs.Sheet.{n_of, freq_part}

pub record Job : Type 0 where
  pub sheet : List ℕ
  pub channels : List ℕ

-- the job of a sheet with the channels on air, and where no list is lent
abbrev pub job_with : List ℕ → List ℕ → Job
job_with s channels = record { sheet = s; channels = channels }

abbrev pub job_of : List ℕ → Job
job_of s = job_with s []

-- vertex v is struck: a channel on air covers its frequency
abbrev pub struck : Job → ℕ → Bool
struck job v = on_air job.channels (freq (freq_part job.sheet) v)

-- the vertices that are left
unfoldable pub unstruck : Job → Set
unstruck job v = not (struck job v) && ltb v (n_of job.sheet)
