-- "Elsewhere an accepted form 2 run gives the same answer, nodes and cells with form 3 in the header and 32,768 words."
use Rattle.std.specs.Prelude.{◌≡◌, List, ◌∷◌, ℕ, ◌≤◌, ◌<◌, length, get_or, drop}
use Rattle.wire.specs.Fields.{le32}
use Rattle.sheet_rows.specs.Form.{most_words}
use Rattle.sheet.specs.Refusal.{refusal}
use Rattle.rules.specs.Job.{Job}
use Rattle.rules.specs.Plans.{checked}
use Rattle.setting.specs.Setting.{Setting}
use Rattle.planner.specs.Outcome.{call_refusal, outcome}
use Rattle.planner.specs.Planned.{gave}
use Rattle.demands.specs.CallDemands.{Called, cause_of}

-- the sheet "with form 3 in the header": in one of form 2 the first byte alone has to change
abbrev pub in_form_three : List ℕ → List ℕ
in_form_three s = 3 ∷ drop 1 s

abbrev pub festival : Job → Job
festival job = record { sheet = in_form_three job.sheet; channels = job.channels }

-- a sheet of form 2
abbrev pub IsFormTwo : Job → Type 0
IsFormTwo job = le32 job.sheet 0 ≡ 2

pub record FormThreeRuns : Type 0 where
  -- it is of form 3, as long, and has every other byte
  pub form : (job : Job) → IsFormTwo job → le32 (festival job).sheet 0 ≡ 3
  pub long : (job : Job) → IsFormTwo job → length (festival job).sheet ≡ length job.sheet
  pub bytes : (job : Job) → IsFormTwo job → (i : ℕ) → 0 < i → get_or (festival job).sheet i 0 ≡ get_or job.sheet i 0
  -- runs of the definitions, and of the calls
  pub runs : (job : Job) → IsFormTwo job → (x : Setting) (m w : ℕ) → call_refusal job x m w ≡ 0
      → (w' : ℕ) → most_words ≤ w' → outcome (festival job) x m w' ≡ outcome job x m w
  pub calls : (job : Job) → IsFormTwo job → (x : Setting) (c : Called job x) → cause_of c ≡ 0
      → (c' : Called (festival job) x) → c'.m ≡ c.m → most_words ≤ c'.w
      → gave c'.r c'.cells ≡ gave c.r c.cells
  -- so does the check
  pub checks : (job : Job) → IsFormTwo job → refusal job.sheet ≡ 0
      → (cells : List ℕ) → checked (festival job) cells ≡ checked job cells
