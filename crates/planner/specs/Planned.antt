-- What a planning call's answer is in the paper's numbers, what the two calls promise, and what their parts do.
use Rattle.std.specs.Prelude.{◌≡◌, Bool, true, false, List, ℕ, ◌≤◌, ◌<◌, length, Result, Ok, Err}
use Rattle.channels.specs.Channels.{channels_ok}
use Rattle.sheet.specs.Sheet.{k_of, n_of}
use Rattle.sheet.specs.Refusal.{cause_number, refusal}
use Rattle.rules.specs.Job.{Job, job_of}
use Rattle.rules.specs.Plans.{checked, check_number}
use Rattle.rules.specs.declared.CheckRefusal.{CheckRefusal}
use Rattle.search.specs.Limit.{run_number}
use Rattle.search.specs.declared.RunOutcome.{RunOutcome}
use Rattle.search.specs.declared.RunVerdict.{RunVerdict}
use Rattle.zeros.specs.Zeros.{zeros}
use Rattle.cells.specs.Cells.{chosen_by, plan_cells}
use Rattle.setting.specs.Setting.{Setting, setting_with, setting_ok}
use Rattle.setting.specs.declared.Options.{Options}
use Rattle.work_words.specs.Layout.{work_words, LaidOut}
use Rattle.work_words.specs.Classes.{list_ok}
use Rattle.work_words.specs.Filled.{Filled}
use Rattle.planner.specs.Outcome.{Outcome, call_refusal, outcome}
use Rattle.planner.specs.declared.Refusal.{Refusal}
use Rattle.planner.specs.declared.Refusal.TheVariants.{Sheet, FewCells, FewWords, Channels, FewCounts}
use Rattle.planner.specs.declared.Refusal.TheVariants as RefusedFor
use Rattle.planner.specs.declared.SetUp.{SetUp}

-- what a planning call gives: a run's outcome, or why it is refused
abbrev pub Planned : Type 0
Planned = Result RunOutcome Refusal

-- the paper's number for each refusal: the number of the cause
abbrev pub refusal_number : Refusal → ℕ
refusal_number (Sheet cause) = cause_number cause
refusal_number RefusedFor.Setting = 9
refusal_number FewCells = 10
refusal_number FewWords = 11
refusal_number Channels = 17
refusal_number RefusedFor.List = 12
refusal_number FewCounts = 19

-- and for each answer: "100 for found, 101 for no plan, 102 for stopped", or the cause
abbrev pub verdict_number : Result RunOutcome Refusal → ℕ
verdict_number (Ok out) = run_number out.verdict
verdict_number (Err refusal) = refusal_number refusal

-- the nodes: of a refusal none
abbrev pub nodes_of : Result RunOutcome Refusal → ℕ
nodes_of (Ok out) = out.nodes
nodes_of (Err refusal) = 0

-- the answer r and the cells that are left are those of an outcome
pub record Gives (o : Outcome) (r : Planned) (left : List ℕ) : Type 0 where
  pub answer : verdict_number r ≡ o.answer
  pub nodes : nodes_of r ≡ o.nodes
  pub cells : left ≡ o.cells

-- a planning call with m plan cells and w work words that returned r, and left these cells and these work words: the
-- answer, the nodes and the cells are those of the outcome, and the work words "all zero after every call"
pub record Planning (job : Job) (x : Setting) (m w : ℕ) (r : Planned) (cells work : List ℕ) : Type 0 where
  pub gives : Gives (outcome job x m w) r cells
  pub words : work ≡ zeros w

-- a plan check that returned a
abbrev pub Checking : Job → List ℕ → Result Bool CheckRefusal → Type 0
Checking job cells a = check_number a ≡ checked job cells

-- what a call gave, as an outcome
abbrev pub gave : Planned → List ℕ → Outcome
gave r cells = record { answer = verdict_number r; nodes = nodes_of r; cells = cells }

-- causes 1 to 11, 16 and 17 are passed, but for the number of cells, in a call with w work words
pub record Passed (job : Job) (x : Setting) (w : ℕ) : Type 0 where
  pub sheet : refusal job.sheet ≡ 0
  pub setting : setting_ok x ≡ true
  pub words : work_words job.sheet ≤ w
  pub channels : channels_ok job.channels ≡ true

-- what those causes say of a call with m plan cells and w work words, whatever the caller's list and whether or not
-- counts are asked for: the number of the first, or that all are passed
abbrev pub FirstCause : Job → Options → ℕ → ℕ → Result (Unit {0}) Refusal → Type 0
FirstCause job options m w (Err r) = (0 < refusal_number r)
    × ((on : Bool) (callers : List ℕ) → call_refusal job (setting_with on options callers) m w ≡ refusal_number r)
FirstCause job options m w (Ok _) = (k_of job.sheet ≤ m)
    × ((on : Bool) (callers : List ℕ) → Passed job (setting_with on options callers) w)

-- the words are laid out and filled, as `Filled` says
pub record Prepared (job : Job) (options : Options) (callers : List ℕ) (w : ℕ) (work : List ℕ)
    (r : SetUp) : Type 0 where
  pub laid : LaidOut r.place r.layers w
  pub freqs : r.place.n ≡ n_of job.sheet
  pub links : r.place.k ≡ k_of job.sheet
  pub filled : (on : Bool) → Filled job (setting_with on options callers) r.place r.layers work true

-- the words are prepared, or the caller's list is refused
abbrev pub SettingUp : Job → Options → List ℕ → ℕ → List ℕ → Result SetUp Refusal → Type 0
SettingUp job options callers w work (Ok r) = Prepared job options callers w work r
SettingUp job options callers w work (Err r) = (r ≡ RefusedFor.List)
    × ((on : Bool) → list_ok job (setting_with on options callers) ≡ false)

-- the causes but for the caller's list are passed, the cells are zero, and there is room for a vertex a class
pub record Ready (job : Job) (x : Setting) (chosen : ℕ) (cells : List ℕ) (work : ℕ) : Type 0 where
  pub passed : Passed job x work
  pub enough : k_of job.sheet ≤ length cells
  pub zero : cells ≡ zeros (length cells)
  pub vertices : chosen ≡ k_of job.sheet

-- what a search found is in the cells, of which there are m
pub record Finished (s chosen : List ℕ) (verdict : RunVerdict) (m : ℕ) (cells : List ℕ) : Type 0 where
  pub found : run_number verdict ≡ 100 → cells ≡ plan_cells (job_of s) (chosen_by chosen) m
  pub other : (run_number verdict ≡ 100 → ⊥) → cells ≡ zeros m
