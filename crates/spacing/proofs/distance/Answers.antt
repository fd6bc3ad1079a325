-- `spacing::distance` meets its contract.
use Rattle.std.proofs.Common.{arith}
use Rattle.spacing.specs.Spacing.{distance}
use Rattle.spacing.proofs.distance.Goals as goal

pub returns : goal.returns
unfolding distance
returns c =
    omega arith
