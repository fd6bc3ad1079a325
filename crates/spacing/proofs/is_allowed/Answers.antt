-- `spacing::is_allowed` meets its contract.
use Rattle.spacing.proofs.Spacing.{read_allowed}
use Rattle.spacing.proofs.is_allowed.Goals as goal

pub returns : goal.returns
returns c =
    read_allowed c.args.spare c.ranges.spare
