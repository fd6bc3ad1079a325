-- Planning in the buffers of a hall: "The printing program and the console's planning call, whose buffers stay small,
-- answer 3 to every form 3 sheet that passes 1 and 2."
use Rattle.std.specs.Prelude.{◌≡◌, Bool, true, false, ◌&&◌, List, ℕ, eqb}
use Rattle.wire.specs.Fields.{le32}
use Rattle.sheet.specs.Refusal.{form_ok, link_count_ok}
use Rattle.rules.specs.Job.{Job}
use Rattle.zeros.specs.Zeros.{zeros}
use Rattle.setting.specs.Setting.{Setting}
use Rattle.planner.specs.Outcome.{Outcome, refused, outcome}
use Rattle.planner.specs.Planned.{Planned, Gives}

-- a "form 3 sheet that passes 1 and 2"
unfoldable pub is_festival : List ℕ → Bool
is_festival s = (form_ok s && link_count_ok s) && eqb (le32 s 0) 3

-- what such a planning call gives, with m plan cells and w work words: as the library's for every other sheet
unfoldable pub hall_outcome : Job → Setting → ℕ → ℕ → Outcome
hall_outcome job x m w = elim (is_festival job.sheet) [ true ↦ refused 3 m | false ↦ outcome job x m w ]

-- a call that returned r, and left these cells and these work words
pub record PlanningHall (job : Job) (x : Setting) (m w : ℕ) (r : Planned) (cells work : List ℕ) : Type 0 where
  pub gives : Gives (hall_outcome job x m w) r cells
  pub words : work ≡ zeros w
