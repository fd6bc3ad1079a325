-- `graph_read::ended_by` meets its contract.
use Rattle.graph_read.proofs.Fields.{told_short, told_other, told_ended}
use Rattle.graph_read.proofs.ended_by.Goals as goal

pub returns-then-d-text : goal.returns-then-d-text
returns-then-d-text c =
    told_short _ _ _ c.if-d-text.true

pub returns-then-text-d : goal.returns-then-text-d
returns-then-text-d c =
    told_other _ _ _ c.if-d-text.false c.if-text-d.true

pub returns : goal.returns
returns c =
    told_ended _ _ _ c.if-d-text.false c.if-text-d.false
