-- `partition::class_list` meets its contract. The part that is returned has the first n classes.
use Rattle.std.proofs.Common.{eq-eqb, ne_eqb}
use Rattle.partition.specs.Choice.{class_list}
use Rattle.partition.proofs.class_list.Goals as goal

pub returns-then-choice-eq2 : goal.returns-then-choice-eq2
unfolding class_list
returns-then-choice-eq2 c =
    rw (eq-eqb _ _ c.if-choice-eq2.true)

pub returns-else-choice-eq2 : goal.returns-else-choice-eq2
unfolding class_list
returns-else-choice-eq2 c =
    rw (ne_eqb _ _ c.if-choice-eq2.false)
