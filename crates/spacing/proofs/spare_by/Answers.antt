-- The number is told by the kind.
use Rattle.std.proofs.Common.{◌∙◌, arith}
use Rattle.std.proofs.lemmas.Int.{ints}
use Rattle.spacing.specs.Spacing.{distance}
use Rattle.spacing.proofs.Spacing.{minus_is, by_one, by_two}
use Rattle.spacing.proofs.spare_by.Goals as goal

pub returns-in-1 : goal.returns-in-1
returns-in-1 c =
    omega (arith, ints) ∙ minus_is _ _ ∙ by_one _ _ _ _ _ c.in-1.is

pub returns-in-2 : goal.returns-in-2
unfolding distance
returns-in-2 c =
    omega (arith, ints) ∙ minus_is _ _ ∙ by_two _ _ _ _ _ c.in-2.is
