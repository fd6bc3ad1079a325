-- The three demands of the calls themselves: of every answer, and of all cells and work words that the contracts of
-- `plan` and `check` allow, which are `Planning` and `Checking`.
use Rattle.std.specs.Prelude.{◌≡◌, Bool, true, false, List, ℕ, ◌≤◌, Result, Ok}
use Rattle.rules.specs.Job.{Job}
use Rattle.rules.specs.Plans.{cells_of}
use Rattle.rules.specs.declared.CheckRefusal.{CheckRefusal}
use Rattle.filters.specs.Switches.{Adds}
use Rattle.graph.specs.Matches.{KeepsEveryRule, MayCheck}
use Rattle.zeros.specs.Zeros.{zeros}
use Rattle.setting.specs.Setting.{Setting}
use Rattle.planner.specs.Outcome.{call_refusal}
use Rattle.planner.specs.Planned.{Planned, verdict_number, nodes_of, Planning, Checking, gave}
use Rattle.demands.specs.Demands.{Answered, Added, with_filter}

-- a call, and what it returned and left
pub record Called (job : Job) (x : Setting) : Type 0 where
  pub m : ℕ
  pub w : ℕ
  pub r : Planned
  pub cells : List ℕ
  pub work : List ℕ
  pub meets : Planning job x m w r cells work

-- the number of its first cause, or 0; and its answer in the paper's numbers
abbrev pub cause_of : {job : Job} {x : Setting} → Called job x → ℕ
cause_of {job} {x} c = call_refusal job x c.m c.w

abbrev pub answer_of : {job : Job} {x : Setting} → Called job x → ℕ
answer_of c = verdict_number c.r

-- demand 1: "a refused planning call leaves every plan cell zero; everything else is accepted", and all work words are
-- zero after every call
pub record CallDemand1 : Type 0 where
  pub refused : (job : Job) (x : Setting) (c : Called job x) → (cause_of c ≡ 0 → ⊥)
      → (answer_of c ≡ cause_of c) × (nodes_of c.r ≡ 0) × (c.cells ≡ zeros c.m)
  pub accepted : (job : Job) (x : Setting) (c : Called job x) → cause_of c ≡ 0
      → (100 ≤ answer_of c) × (answer_of c ≤ 102)
  pub words : (job : Job) (x : Setting) (c : Called job x) → c.work ≡ zeros c.w

-- demand 2: "A plan handed out is one of these, and the plan check says yes to exactly these"; to cells that it does
-- not refuse it says no where it does not say yes
pub record CallDemand2 : Type 0 where
  pub handed : (job : Job) (x : Setting) (c : Called job x) → answer_of c ≡ 100 → KeepsEveryRule job (cells_of c.cells)
  pub only : (job : Job) (cells : List ℕ) (a : Result Bool CheckRefusal) → Checking job cells a → a ≡ Ok true
      → MayCheck job cells × KeepsEveryRule job (cells_of cells)
  pub all : (job : Job) (cells : List ℕ) (a : Result Bool CheckRefusal) → Checking job cells a → MayCheck job cells
      → KeepsEveryRule job (cells_of cells) → a ≡ Ok true
  pub no : (job : Job) (cells : List ℕ) (a : Result Bool CheckRefusal) → Checking job cells a → MayCheck job cells
      → (KeepsEveryRule job (cells_of cells) → ⊥) → a ≡ Ok false

-- demand 3: stopped, node number, no plan and first plan, "Whatever filters, accepted partition and limit"; and two
-- calls that differ in their filters alone
pub record CallDemand3 : Type 0 where
  pub answered : (job : Job) (x : Setting) (c : Called job x) → cause_of c ≡ 0 → Answered job x (gave c.r c.cells)
  pub added : (job : Job) (x : Setting) (filter : ℕ) → Adds filter x.filter
      → (c' : Called job (with_filter x filter)) (c : Called job x) → c'.m ≡ c.m → c'.w ≡ c.w
      → cause_of c' ≡ 0 → cause_of c ≡ 0 → Added job x filter (gave c'.r c'.cells) (gave c.r c.cells)
