-- `spacing::spare_without` meets its contract.
use Rattle.std.proofs.Common.{◌∙◌, arith}
use Rattle.std.proofs.lemmas.Int.{ints}
use Rattle.spacing.specs.Spacing.{spare_without}
use Rattle.spacing.proofs.Spacing.{minus_is}
use Rattle.spacing.proofs.spare_without.Goals as goal

pub returns : goal.returns
unfolding spare_without
returns c =
    omega (arith, ints) ∙ minus_is _ _
