-- The planning call: what it refuses, and its answer, node number and plan cells, for every input.
use Rattle.std.specs.Prelude.{true, false, List, ℕ, leb, eqb}
use Rattle.channels.specs.Channels.{channels_ok}
use Rattle.sheet.specs.Sheet.{k_of}
use Rattle.sheet.specs.Refusal.{refusal, passing, unless}
use Rattle.rules.specs.Job.{Job, unstruck}
use Rattle.graph.specs.Graph.{layer}
use Rattle.search.specs.Tree.{Tree}
use Rattle.search.specs.Setting.{tree}
use Rattle.search.specs.Limit.{Answer, plan, none, stopped, answer, answer_number, reported}
use Rattle.zeros.specs.Zeros.{zeros}
use Rattle.cells.specs.Cells.{plan_cells}
use Rattle.setting.specs.Setting.{Setting, setting_ok}
use Rattle.work_words.specs.Layout.{work_words}
use Rattle.work_words.specs.Classes.{list_ok, graph_in}

-- the table's causes 9 to 12 in the order tested, 11 by the sheet's form, 17 "after 11, before 12", for a call with m
-- plan cells and w work words
unfoldable pub setting_cause : Job → Setting → ℕ → ℕ → ℕ
setting_cause job x m w =
    passing (setting_ok x) 9 λ _.
    passing (leb (k_of job.sheet) m) 10 λ _.
    passing (leb (work_words job.sheet) w) 11 λ _.
    passing (channels_ok job.channels) 17 λ _.
    unless (list_ok job x) 12

-- causes 1 to 12, 16 and 17: the number of the first, or 0 where the call is accepted
unfoldable pub call_refusal : Job → Setting → ℕ → ℕ → ℕ
call_refusal job x m w = passing (eqb (refusal job.sheet) 0) (refusal job.sheet) λ _. setting_cause job x m w

-- "The tree of a setting", from the vertices that are left; "A run asked for these counts goes on after a plan to the
-- end"
unfoldable pub tree_of : Job → Setting → Tree
tree_of job x = tree x.counts x.filter (graph_in job x) (layer job) (unstruck job)

-- what a call gives: a refusal number 1 to 12, 16 or 17, 100 for found, 101 for no plan or 102 for stopped; the nodes;
-- and every plan cell
pub record Outcome : Type 0 where
  pub answer : ℕ
  pub nodes : ℕ
  pub cells : List ℕ

-- m plan cells: "found fills the first k in link order, all others are zero"
abbrev pub cells_for : Job → ℕ → Answer → List ℕ
cells_for job m (plan p t) = plan_cells job p m
cells_for job m (none t) = zeros m
cells_for job m (stopped t) = zeros m

-- the outcome of a run
abbrev pub outcome_of : Job → ℕ → Answer → Outcome
outcome_of job m a = record { answer = answer_number a; nodes = reported a; cells = cells_for job m a }

-- a refusal returns its number and 0 nodes, and "Plan cells and work words are zeroed on every refusal of a planning
-- call"
abbrev pub refused : ℕ → ℕ → Outcome
refused r m = record { answer = r; nodes = 0; cells = zeros m }

abbrev pub unless_refused : ℕ → ℕ → (Unit {0} → Outcome) → Outcome
unless_refused r m run = elim (eqb r 0) [ true ↦ run tt | false ↦ refused r m ]

-- the planning call: a job, a setting, m plan cells, w work words
unfoldable pub outcome : Job → Setting → ℕ → ℕ → Outcome
outcome job x m w = unless_refused (call_refusal job x m w) m λ _. outcome_of job m (answer x.limit (tree_of job x))
