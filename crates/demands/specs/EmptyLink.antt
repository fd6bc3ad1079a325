-- A link that the channels on air leave empty.
use Rattle.std.specs.Prelude.{◌≡◌, true, ℕ, ◌<◌}
use Rattle.sheet.specs.Sheet.{k_of}
use Rattle.rules.specs.Job.{Job, struck}
use Rattle.pair_test.specs.Layers.{InLink}
use Rattle.zeros.specs.Zeros.{zeros}
use Rattle.setting.specs.Setting.{Setting}
use Rattle.planner.specs.Outcome.{Outcome, call_refusal, outcome}
use Rattle.planner.specs.Planned.{gave}
use Rattle.demands.specs.CallDemands.{Called, cause_of}

-- one of the job's links, of whose vertices each is struck
pub record LeftEmpty (job : Job) (l : ℕ) : Type 0 where
  pub link : l < k_of job.sheet
  pub each : (v : ℕ) → InLink job.sheet l v → struck job v ≡ true

-- no plan with 0 nodes, and m plan cells of zero
abbrev pub no_plan_at_once : ℕ → Outcome
no_plan_at_once m = record { answer = 101; nodes = 0; cells = zeros m }

-- "A link left empty gives no plan with 0 nodes", whatever the setting of an accepted call: of the definitions, and of
-- the calls themselves
pub record EmptyLink : Type 0 where
  pub given : (job : Job) (x : Setting) (m w l : ℕ) → call_refusal job x m w ≡ 0 → LeftEmpty job l
      → outcome job x m w ≡ no_plan_at_once m
  pub called : (job : Job) (x : Setting) (c : Called job x) (l : ℕ) → cause_of c ≡ 0 → LeftEmpty job l
      → gave c.r c.cells ≡ no_plan_at_once c.m
