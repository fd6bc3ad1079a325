use Rattle.rules.specs.Plans.{in_lists}
use Rattle.rules.proofs.plans.cell_listed.Goals as goal

pub returns : goal.returns
unfolding in_lists
returns c = cc
