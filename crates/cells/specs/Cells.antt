-- The plan cells of a plan: "found fills the first k in link order, all others are zero".
use Rattle.std.specs.Prelude.{◌≡◌, true, cond, List, ℕ, ◌≤◌, ◌<◌, ltb, eqb, length, get_or}
use Rattle.sets.specs.Below.{any, tabulate}
use Rattle.sheet.specs.Sheet.{k_of, n_of}
use Rattle.sheet.specs.Accepted.{Accepted}
use Rattle.rules.specs.Job.{Job, job_of}
use Rattle.graph.specs.Graph.{link_of}
use Rattle.graph.specs.Matches.{assignment}

-- the cell of link l: the frequency of the link's vertex, the plan p being listed by class; zero past the links
unfoldable pub cell_of : Job → (ℕ → ℕ) → ℕ → ℕ
cell_of job p l = cond (ltb l (k_of job.sheet)) (assignment job p l) 0

-- m plan cells
unfoldable pub plan_cells : Job → (ℕ → ℕ) → ℕ → List ℕ
plan_cells job p m = tabulate m (cell_of job p)

-- the vertex chosen for a class
abbrev pub chosen_by : List ℕ → ℕ → ℕ
chosen_by chosen j = get_or chosen j 0

-- the sheet is accepted, and a vertex of each link is chosen
pub record Chosen (s chosen : List ℕ) : Type 0 where
  pub accepted : Accepted s
  pub listed : k_of s ≤ length chosen
  pub lt : (j : ℕ) → j < k_of s → chosen_by chosen j < n_of s
  pub hit : (l : ℕ) → l < k_of s → any (k_of s) (λ j. eqb (link_of (job_of s) (chosen_by chosen j)) l) ≡ true
