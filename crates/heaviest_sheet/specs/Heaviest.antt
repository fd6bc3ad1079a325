-- What is shown of the heaviest job.
use Rattle.std.specs.Prelude.{◌≡◌, false, cond, List, ℕ, ◌≤◌, ◌<◌, leb, take}
use Rattle.wire.specs.Fields.{le32}
use Rattle.sheet_rows.specs.Rows.{link_count}
use Rattle.sheet.specs.Sheet.{k_of}
use Rattle.sheet.specs.Refusal.{refusal}
use Rattle.rules.specs.Job.{job_of}
use Rattle.search.specs.Tree.{nodes}
use Rattle.setting.specs.Setting.{Setting}
use Rattle.planner.specs.Outcome.{call_refusal, tree_of, outcome}
use Rattle.tree_size.specs.Size.{heaviest_nodes}
use Rattle.heaviest_sheet.specs.Call.{HeaviestOutcome, heaviest_of}

-- an accepted sheet, of any form, of "k links with m frequencies each"
pub record OfLinks (k m : ℕ) (s : List ℕ) : Type 0 where
  pub accepted : refusal s ≡ 0
  pub links : k_of s ≡ k
  pub freqs : (l : ℕ) → l < k → link_count s l ≡ m

-- "under filter 0 and choice 0"; a run until the first plan: "any other run, and Ask 6, keep the tree of document 01"
pub record Plain (x : Setting) : Type 0 where
  pub filter : x.filter ≡ 0
  pub choice : x.choice ≡ 0
  pub first : x.counts ≡ false

-- no list is lent: `job_of`. The tree is the whole one, "also where the size is beyond every node limit"
pub record Heaviest (k m : ℕ) (s : List ℕ) : Type 0 where
  -- "such a form 1 sheet"
  pub form : le32 s 0 ≡ 1
  pub job : OfLinks k m s
  pub size : (x : Setting) → Plain x → nodes (tree_of (job_of s) x) ≡ heaviest_nodes k m
  -- "no sheet of that k and m has a larger tree", under choice 0 with any filter number
  pub most : (other : List ℕ) → OfLinks k m other → (x : Setting) → x.choice ≡ 0 → x.counts ≡ false
      → nodes (tree_of (job_of other) x) ≤ heaviest_nodes k m
  -- a planning call with it: found where the limit allows the whole tree, stopped at every lower limit
  pub answer : (x : Setting) (c w : ℕ) → Plain x → call_refusal (job_of s) x c w ≡ 0
      → (outcome (job_of s) x c w).answer ≡ cond (leb (heaviest_nodes k m) x.limit) 100 102
  pub entered : (x : Setting) (c w : ℕ) → Plain x → call_refusal (job_of s) x c w ≡ 0
      → (outcome (job_of s) x c w).nodes ≡ cond (leb (heaviest_nodes k m) x.limit) (heaviest_nodes k m) x.limit

-- what the call wrote: as many bytes of the buffer as the length says
abbrev pub sheet_written : HeaviestOutcome → List ℕ
sheet_written o = take o.length o.buffer

-- it is the heaviest job wherever the call does not refuse
abbrev pub HeaviestJob : Type 0
HeaviestJob = (k m room : ℕ) (o : HeaviestOutcome) → o ≡ heaviest_of k m room → o.answer ≡ 0
    → Heaviest k m (sheet_written o)
