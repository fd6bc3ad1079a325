-- `graph_read::push` meets its contract.
use Rattle.graph_read.proofs.Numbers.{pushed_most, pushed_more}
use Rattle.graph_read.proofs.push.Goals as goal

pub returns-then-value-ge1000000000000000000 : goal.returns-then-value-ge1000000000000000000
returns-then-value-ge1000000000000000000 c =
    pushed_most _ _ c.if-value-ge1000000000000000000.true

pub returns : goal.returns
returns c =
    pushed_more _ _ c.if-value-ge1000000000000000000.false c.requires.1
