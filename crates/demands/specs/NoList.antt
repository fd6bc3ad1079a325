-- A job without a list of channels: nothing is struck, and it is judged and searched by its sheet alone.
use Rattle.std.specs.Prelude.{◌≡◌, true, List, [], ℕ}
use Rattle.sets.specs.Sets.{whole}
use Rattle.channels.specs.Channels.{channels_ok}
use Rattle.sheet.specs.Sheet.{k_of, n_of}
use Rattle.sheet.specs.Refusal.{refusal}
use Rattle.rules.specs.Job.{job_of, unstruck}
use Rattle.pair_test.specs.Layers.{layer_of}
use Rattle.rules.specs.Plans.{keeps_sheet, keeps_job}
use Rattle.cliques.specs.Graph.{is_open, none_empty}
use Rattle.graph.specs.Graph.{sheet_edge, layer, edge}
use Rattle.partition.specs.Partition.{class_of}
use Rattle.setting.specs.Setting.{Setting}
use Rattle.work_words.specs.Classes.{classes_of, graph_in}

pub record NoList (s : List ℕ) : Type 0 where
  -- no cause 17; every vertex is left, and adjacency, layers and classes are those of the sheet
  pub lent : channels_ok [] ≡ true
  pub live : unstruck (job_of s) ≡ whole (n_of s)
  pub edges : (u v : ℕ) → edge (job_of s) u v ≡ sheet_edge s u v
  pub layers : (v : ℕ) → layer (job_of s) v ≡ layer_of s (k_of s) v
  pub classes : (x : Setting) (v : ℕ) → (graph_in (job_of s) x).cls v ≡ class_of (classes_of (job_of s) x) v
  -- an assignment keeps every rule of the job where it keeps those of the sheet
  pub keeps : (f : ℕ → ℕ) → keeps_job (job_of s) f ≡ keeps_sheet s f
  -- no link of an accepted sheet is empty: before any filter "Fewer than k non-empty classes" alone mean no plan with 0
  -- nodes
  pub links : refusal s ≡ 0 → (x : Setting)
      → none_empty (graph_in (job_of s) x) (layer (job_of s)) (whole (n_of s)) ≡ is_open (graph_in (job_of s) x) 0 (whole (n_of s))

pub record NothingStruck : Type 0 where
  pub without : (s : List ℕ) → NoList s
