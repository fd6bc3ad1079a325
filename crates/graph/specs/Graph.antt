-- The graph of a job, its microstructure. "Vertex v is the v-th frequency of the sheet, from 0; a link's vertices form
-- its layer."
use Rattle.std.specs.Prelude.{Bool, not, cond, ◌&&◌, List, ℕ, ltb, eqb}
use Rattle.sheet.specs.Sheet.{k_of, n_of, q_of, freq_part, rule_part, pair_part}
use Rattle.rules.specs.Job.{Job, struck}
use Rattle.pair_test.specs.Layers.{layer_of}
use Rattle.spacing.specs.Spacing.{zero_or_more}
use Rattle.pair_test.specs.Pairs.{spare}
use Rattle.cliques.specs.Graph.{Graph}

-- u and v are among the n vertices, "their links differ"
unfoldable pub links_differ : List ℕ → ℕ → ℕ → ℕ → ℕ → Bool
links_differ sheet k n u v = (ltb u n && ltb v n) && not (eqb (layer_of sheet k u) (layer_of sheet k v))

-- "Two vertices are adjacent when their links differ and the rule of the links, if any, allows the pair": the pair test
-- gives "zero or more"; over the sheet's sections, with k links, n vertices and q rules
unfoldable pub adjacent : List ℕ → List ℕ → List ℕ → List ℕ → ℕ → ℕ → ℕ → ℕ → ℕ → Bool
adjacent sheet fs rs ps k n q u v =
    links_differ sheet k n u v && zero_or_more (spare sheet fs rs ps q (layer_of sheet k u) (layer_of sheet k v) u v)

-- the same of a sheet
abbrev pub sheet_edge : List ℕ → ℕ → ℕ → Bool
sheet_edge s u v = adjacent s (freq_part s) (rule_part s) (pair_part s) (k_of s) (n_of s) (q_of s) u v

-- the link whose list a vertex is of, struck or not
abbrev pub link_of : Job → ℕ → ℕ
link_of job v = layer_of job.sheet (k_of job.sheet) v

-- "A struck vertex keeps its number and class byte", but "is in no layer, class or clique and has no neighbours": the
-- class of a vertex, which is k, none of the classes 0 to k − 1, for a struck one; its layer; adjacency
abbrev pub unless_struck : Job → (ℕ → ℕ) → ℕ → ℕ
unless_struck job cls v = cond (struck job v) (k_of job.sheet) (cls v)

abbrev pub layer : Job → ℕ → ℕ
layer job = unless_struck job (link_of job)

abbrev pub edge : Job → ℕ → ℕ → Bool
edge job u v = (not (struck job u) && not (struck job v)) && sheet_edge job.sheet u v

-- the job's graph, with a class for each vertex
abbrev pub graph_of : Job → (ℕ → ℕ) → Graph
graph_of job cls = record { n = n_of job.sheet; k = k_of job.sheet; cls = cls; adj = edge job }
