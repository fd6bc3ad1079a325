-- `graph_read::read_digits` meets its contract: the digits before i are read.
use Rattle.std.proofs.Common.{◌≤◌}
use Rattle.graph_read.specs.Read.{most_value}
use Rattle.graph_read.proofs.Numbers.{SoFar}
use Rattle.graph_read.proofs.read_digits.Given as goal

abbrev pub invariant-loop-i : goal.invariant-loop-i
invariant-loop-i l =
    (l.value ≤ most_value) × SoFar l.text l.at l.first l.i l.value
