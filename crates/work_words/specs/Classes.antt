-- The class list of a job under a setting, and the job's graph in these classes.
use Rattle.std.specs.Prelude.{Bool, not, ◌||◌, List, ℕ, eqb}
use Rattle.sheet.specs.Sheet.{k_of, n_of}
use Rattle.rules.specs.Job.{Job}
use Rattle.cliques.specs.Graph.{Graph}
use Rattle.graph.specs.Graph.{link_of, unless_struck, edge, graph_of}
use Rattle.partition.specs.Partition.{class_of, layers_of, is_partition, classes}
use Rattle.setting.specs.Setting.{Setting}

-- not "choice 2: list length not n, class not below k, adjacent vertices in a class"
unfoldable pub list_ok : Job → Setting → Bool
list_ok job x = not (eqb x.choice 2) || is_partition (n_of job.sheet) (k_of job.sheet) (edge job) x.callers

-- the layers as a class list, in which a struck vertex "keeps its number and class byte"
abbrev pub layer_list : Job → List ℕ
layer_list job = layers_of (n_of job.sheet) (link_of job)

-- the class list, and the graph in these classes, of which a struck vertex is in none
unfoldable pub classes_of : Job → Setting → List ℕ
classes_of job x = classes (n_of job.sheet) (k_of job.sheet) (edge job) x.choice (layer_list job) x.callers

abbrev pub graph_in : Job → Setting → Graph
graph_in job x = graph_of job (unless_struck job (class_of (classes_of job x)))
