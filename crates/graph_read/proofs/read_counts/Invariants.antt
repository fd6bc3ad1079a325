-- `graph_read::read_counts` meets its contract: the lines before `at` are read.
use Rattle.std.proofs.Common.{◌-◌, ◌≤◌, length}
use Rattle.graph_read.proofs.CountLines.{SoFar}
use Rattle.graph_read.proofs.read_counts.Given as goal

abbrev pub invariant-loop-at : goal.invariant-loop-at
invariant-loop-at l =
    (l.k ≤ 64) × (l.total ≤ 512) × (l.at ≤ length l.text) × SoFar l.text l.at l.k l.total l.counts

abbrev pub decreases-loop-at : goal.decreases-loop-at
decreases-loop-at l =
    length l.text - l.at
