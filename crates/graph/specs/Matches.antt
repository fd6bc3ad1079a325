-- Demand 2: "The graph is the job's microstructure".
use Rattle.std.specs.Prelude.{◌≡◌, true, List, ℕ, ◌≤◌, ◌<◌, length}
use Rattle.sheet_rows.specs.Rows.{freq}
use Rattle.channels.specs.Channels.{channels_ok}
use Rattle.sheet.specs.Sheet.{k_of, freq_part}
use Rattle.sheet.specs.Refusal.{refusal}
use Rattle.rules.specs.Job.{Job, unstruck}
use Rattle.rules.specs.Plans.{vertex_of, cells_of, keeps_job, checked}
use Rattle.cliques.specs.Graph.{KClique}
use Rattle.cliques.specs.Listing.{by_layer}
use Rattle.graph.specs.Graph.{link_of, graph_of}

-- the assignment f, a frequency for each link, keeps every rule
abbrev pub KeepsEveryRule : Job → (ℕ → ℕ) → Type 0
KeepsEveryRule job f = keeps_job job f ≡ true

-- c lists the vertices of a k-clique of the job's graph, none of them struck
abbrev pub IsClique : Job → (ℕ → ℕ) → Type 0
IsClique job c = KClique (graph_of job (link_of job)) (unstruck job) c

-- the assignment of a k-clique: for each link the frequency of its vertex
abbrev pub assignment : Job → (ℕ → ℕ) → ℕ → ℕ
assignment job c l = freq (freq_part job.sheet) (by_layer (k_of job.sheet) (link_of job) c l)

-- the k-clique of an assignment: for each link the vertex of its frequency
abbrev pub vertices : Job → (ℕ → ℕ) → ℕ → ℕ
vertices job f l = vertex_of job.sheet (freq_part job.sheet) l (f l)

-- "its k-cliques and the rule-keeping assignments match one to one": the two maps, each the other's inverse. A k-clique
-- is the set of its vertices: the clique of c's assignment has each vertex of c, for the link of that vertex
pub record Matches (job : Job) : Type 0 where
  pub there : (c : ℕ → ℕ) → IsClique job c → KeepsEveryRule job (assignment job c)
  pub back : (f : ℕ → ℕ) → KeepsEveryRule job f → IsClique job (vertices job f)
  pub there_back : (c : ℕ → ℕ) → IsClique job c → (j : ℕ) → j < k_of job.sheet
      → vertices job (assignment job c) (link_of job (c j)) ≡ c j
  pub back_there : (f : ℕ → ℕ) → KeepsEveryRule job f → (l : ℕ) → l < k_of job.sheet
      → assignment job (vertices job f) l ≡ f l

-- the check refuses neither sheet, cells nor channels: the sheet is accepted, there is a cell at least for each link,
-- and the list may be lent
pub record MayCheck (job : Job) (cells : List ℕ) : Type 0 where
  pub sheet : refusal job.sheet ≡ 0
  pub enough : k_of job.sheet ≤ length cells
  pub channels : channels_ok job.channels ≡ true

-- "the plan check says yes to exactly these": to cells that it does not refuse and that keep every rule
pub record YesToThese (job : Job) (cells : List ℕ) : Type 0 where
  pub only : checked job cells ≡ 100 → MayCheck job cells × KeepsEveryRule job (cells_of cells)
  pub all : MayCheck job cells → KeepsEveryRule job (cells_of cells) → checked job cells ≡ 100

-- demand 2 of the definitions
pub record Demand2 : Type 0 where
  pub matches : (job : Job) → refusal job.sheet ≡ 0 → Matches job
  pub check : (job : Job) (cells : List ℕ) → YesToThese job cells
