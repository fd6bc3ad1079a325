-- `graph_read::edges::read_edges` meets its contract: the lines before `place` are read.
use Rattle.std.proofs.Common.{List, ℕ, ◌+◌, ◌-◌, ◌≤◌, length}
use Rattle.vset.specs.Words.{has}
use Rattle.graph_read.specs.Graphs.{LayersTold}
use Rattle.graph_read.proofs.EdgeLines.{SoFar}
use Rattle.graph_read.proofs.edges.read_edges.Given as goal

abbrev pub invariant-loop-place : goal.invariant-loop-place
invariant-loop-place l =
    (l.place ≤ length l.text)
    × (l.count + l.count ≤ l.place)
    × ((cs : List ℕ) → LayersTold cs l.n l.layers → SoFar cs l.text l.at l.place l.count (has l.codes) l.clash)

abbrev pub decreases-loop-place : goal.decreases-loop-place
decreases-loop-place l =
    length l.text - l.place
