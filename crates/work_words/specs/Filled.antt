-- How the work words stand before the search.
use Rattle.std.specs.Prelude.{◌≡◌, Bool, true, not, cond, ◌||◌, List, ℕ, ◌+◌, ◌*◌, ◌<◌, eqb, length}
use Rattle.sets.specs.Sets.{◌∩◌}
use Rattle.channels.specs.Channels.{channels_ok}
use Rattle.rows.specs.Rows.{row_at, Outside}
use Rattle.cliques.specs.Words.{with_masks, own_row, Node}
use Rattle.cliques.specs.declared.Place.{Place}
use Rattle.sheet.specs.Sheet.{k_of, n_of}
use Rattle.sheet.specs.Accepted.{Accepted}
use Rattle.rules.specs.Job.{Job, unstruck}
use Rattle.graph.specs.Graph.{layer, edge, graph_of}
use Rattle.partition.specs.Partition.{built, is_partition}
use Rattle.partition.specs.Words.{Rows, members}
use Rattle.setting.specs.Setting.{Setting}
use Rattle.work_words.specs.Layout.{LaidOut}
use Rattle.work_words.specs.Classes.{list_ok, layer_list, graph_in}

-- the place is that of an accepted sheet, laid out in `len` words, the channels may be lent, and `list` classes have
-- room
pub record Placed (job : Job) (place : Place) (layers len list : ℕ) : Type 0 where
  pub accepted : Accepted job.sheet
  pub channels : channels_ok job.channels ≡ true
  pub freqs : place.n ≡ n_of job.sheet
  pub links : place.k ≡ k_of job.sheet
  pub laid : LaidOut place layers len
  pub room : list ≡ place.n

-- the rows of the graph and the masks of all the vertices of each link are written, and `cls` lists the layers
pub record RowsPut (job : Job) (place : Place) (layers : ℕ) (p cls : List ℕ) : Type 0 where
  pub rows : (u : ℕ) → u < place.n → row_at p place.w place.graph u ≡ edge job u
  pub masks : (c : ℕ) → c < place.k → row_at p place.w layers c ≡ members place.n (layer_list job) c
  pub list : cls ≡ layer_list job

-- r says whether the caller's list may be used, for every adjacency that the rows hold; only the k masks were written
pub record ListChecked (choice : ℕ) (place : Place) (callers p p' : List ℕ) (r : Bool) : Type 0 where
  pub answer : (adj : ℕ → ℕ → Bool) → Rows adj place.w place.graph place.n p
      → r ≡ (not (eqb choice 2) || is_partition place.n place.k adj callers)
  pub rest : Outside place.masks (place.masks + place.k * place.w) p p'

-- under choice 1 the classes are built, from the layers in `cls`; only the words in front were written
pub record ListBuilt (choice : ℕ) (place : Place) (p p' cls cls' : List ℕ) : Type 0 where
  pub classes : (adj : ℕ → ℕ → Bool) → Rows adj place.w place.graph place.n p
      → cls' ≡ cond (eqb choice 1) (built place.n place.k adj cls) cls
  pub rest : Outside 0 (place.n + place.n + place.w) p p'

-- the root row has the vertices that are left, the masks of the classes and of the layers are cut to them, and the rows
-- of the graph stay
pub record MasksCut (job : Job) (place : Place) (layers : ℕ) (p p' : List ℕ) : Type 0 where
  pub root : own_row place p' ≡ unstruck job
  pub classes : (c : ℕ) → c < place.k
      → row_at p' place.w place.masks c ≡ row_at p place.w place.masks c ∩ unstruck job
  pub layers_cut : (c : ℕ) → c < place.k
      → row_at p' place.w layers c ≡ row_at p place.w layers c ∩ unstruck job
  pub rows : (u : ℕ) → u < place.n → row_at p' place.w place.graph u ≡ row_at p place.w place.graph u
  pub len : length p' ≡ length p

-- r says whether the call goes on; where it does, the words hold the job's graph by its classes and by its layers, and
-- the root row has every vertex that is left
pub record Filled (job : Job) (x : Setting) (place : Place) (layers : ℕ) (p' : List ℕ) (r : Bool) : Type 0 where
  pub list : r ≡ list_ok job x
  pub by_class_is : r ≡ true → Node (graph_in job x) 0 place p'
  pub by_layer_is : r ≡ true → Node (graph_of job (layer job)) 0 (with_masks place layers) p'
  pub root : r ≡ true → own_row place p' ≡ unstruck job
