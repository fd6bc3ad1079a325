-- What a job's graph decides: its classes, its tree, its verdict and its node count.
use Rattle.std.specs.Prelude.{◌≡◌, ℕ, leb}
use Rattle.channels.specs.Channels.{channels_ok}
use Rattle.sheet.specs.Sheet.{k_of, n_of}
use Rattle.sheet.specs.Refusal.{refusal}
use Rattle.rules.specs.Job.{Job, struck}
use Rattle.graph.specs.Graph.{link_of, edge}
use Rattle.setting.specs.Setting.{Setting}
use Rattle.work_words.specs.Layout.{work_words}
use Rattle.work_words.specs.Classes.{classes_of}
use Rattle.planner.specs.Outcome.{Outcome, tree_of, outcome}

-- two jobs have the same graph: vertices, links, the link of each vertex, the struck ones and adjacency
pub record SameGraph (job job' : Job) : Type 0 where
  pub vertices : n_of job.sheet ≡ n_of job'.sheet
  pub links : k_of job.sheet ≡ k_of job'.sheet
  pub layers : link_of job ≡ link_of job'
  pub strikes : struck job ≡ struck job'
  pub edges : edge job ≡ edge job'

-- the same verdict, and the same node count
pub record SameVerdict (o o' : Outcome) : Type 0 where
  pub answer : o.answer ≡ o'.answer
  pub nodes : o.nodes ≡ o'.nodes

-- jobs with the same graph, whose sheets the reader answers alike and whose channels may both be lent or neither, run
-- alike under every setting, each in as many work words as its form needs or each in fewer; in choice 2 by the same
-- caller's list
pub record GraphDecides : Type 0 where
  pub classes : (job job' : Job) → SameGraph job job' → (x : Setting) → classes_of job x ≡ classes_of job' x
  pub trees : (job job' : Job) → SameGraph job job' → (x : Setting) → tree_of job x ≡ tree_of job' x
  pub runs : (job job' : Job) → SameGraph job job' → refusal job.sheet ≡ refusal job'.sheet
      → channels_ok job.channels ≡ channels_ok job'.channels
      → (w w' : ℕ) → leb (work_words job.sheet) w ≡ leb (work_words job'.sheet) w'
      → (x : Setting) (m : ℕ) → SameVerdict (outcome job x m w) (outcome job' x m w')
