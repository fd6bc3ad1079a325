-- Demands 1 and 3 of the definitions. (Demand 2 is `Demand2` of the crate graph.)
use Rattle.std.specs.Prelude.{◌≡◌, ℕ, ◌≤◌, ◌<◌, min}
use Rattle.sheet.specs.Sheet.{k_of}
use Rattle.rules.specs.Job.{Job}
use Rattle.rules.specs.Plans.{cells_of}
use Rattle.cliques.specs.Listing.{by_layer}
use Rattle.filters.specs.Switches.{Adds}
use Rattle.graph.specs.Matches.{KeepsEveryRule, vertices}
use Rattle.partition.specs.Partition.{class_of}
use Rattle.search.specs.Tree.{nodes}
use Rattle.search.specs.Order.{Earlier}
use Rattle.setting.specs.Setting.{Setting}
use Rattle.work_words.specs.Classes.{classes_of}
use Rattle.planner.specs.Outcome.{Outcome, refused, call_refusal, tree_of, outcome}

-- demand 1: a refused call returns the number of its first cause and 0 nodes, and "leaves every plan cell zero";
-- "everything else is accepted": it is answered by found, no plan or stopped
pub record Demand1 : Type 0 where
  pub refused : (job : Job) (x : Setting) (m w : ℕ) → (call_refusal job x m w ≡ 0 → ⊥)
      → outcome job x m w ≡ refused (call_refusal job x m w) m
  pub accepted : (job : Job) (x : Setting) (m w : ℕ) → call_refusal job x m w ≡ 0
      → (100 ≤ (outcome job x m w).answer) × ((outcome job x m w).answer ≤ 102)

-- the vertices of an assignment listed by the classes of a setting
abbrev pub by_class : Job → Setting → (ℕ → ℕ) → ℕ → ℕ
by_class job x f = by_layer (k_of job.sheet) (class_of (classes_of job x)) (vertices job f)

-- "The partition's order compares k-cliques, and with them the assignments they match, by their vertices listed by
-- class, in dictionary order": g comes LATER than f
abbrev pub Later : Job → Setting → (ℕ → ℕ) → (ℕ → ℕ) → Type 0
Later job x f g = Earlier (k_of job.sheet) 0 (by_class job x f) (by_class job x g)

-- f and g take another frequency for some link
abbrev pub Other : Job → (ℕ → ℕ) → (ℕ → ℕ) → Type 0
Other job f g = (l : ℕ) × (l < k_of job.sheet) × (f l ≡ g l → ⊥)

-- an accepted call, with its outcome o
pub record Answered (job : Job) (x : Setting) (o : Outcome) : Type 0 where
  -- "stopped exactly when the tree has more nodes than the limit"
  pub stops : x.limit < nodes (tree_of job x) → o.answer ≡ 102
  pub stopped : o.answer ≡ 102 → x.limit < nodes (tree_of job x)
  -- "the node number is the smaller of the two"
  pub number : o.nodes ≡ min (nodes (tree_of job x)) x.limit
  -- "no plan exactly when none exists": where it is not stopped
  pub says_no_plan : o.answer ≡ 101 → (f : ℕ → ℕ) → KeepsEveryRule job f → ⊥
  pub none_exists : ((f : ℕ → ℕ) → KeepsEveryRule job f → ⊥) → (o.answer ≡ 102 → ⊥) → o.answer ≡ 101
  -- "else found, with the plan that comes first in the partition's order, every other one LATER"
  pub else_found : (o.answer ≡ 101 → ⊥) → (o.answer ≡ 102 → ⊥) → o.answer ≡ 100
  pub keeps : o.answer ≡ 100 → KeepsEveryRule job (cells_of o.cells)
  pub first : o.answer ≡ 100 → (f : ℕ → ℕ) → KeepsEveryRule job f → Other job (cells_of o.cells) f
      → Later job x (cells_of o.cells) f

-- the setting with another filter number
abbrev pub with_filter : Setting → ℕ → Setting
with_filter x filter = record {
  filter = filter;
  choice = x.choice;
  limit = x.limit;
  callers = x.callers;
  counts = x.counts;
}

-- "Adding filters never makes the tree larger and never changes the answer or the plan of a run that was not stopped"
pub record Added (job : Job) (x : Setting) (filter : ℕ) (o' o : Outcome) : Type 0 where
  pub smaller : nodes (tree_of job (with_filter x filter)) ≤ nodes (tree_of job x)
  pub same : (o.answer ≡ 102 → ⊥) → (o'.answer ≡ o.answer) × (o'.cells ≡ o.cells)

-- "Whatever filters, accepted partition and limit", and whatever plan cells and work words are lent
pub record Demand3 : Type 0 where
  pub answered : (job : Job) (x : Setting) (m w : ℕ) → call_refusal job x m w ≡ 0 → Answered job x (outcome job x m w)
  pub added : (job : Job) (x : Setting) (filter m w : ℕ) → Adds filter x.filter
      → call_refusal job (with_filter x filter) m w ≡ 0 → call_refusal job x m w ≡ 0
      → Added job x filter (outcome job (with_filter x filter) m w) (outcome job x m w)
