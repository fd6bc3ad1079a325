-- `graph_read::edges::is_vertex` meets its contract.
use Rattle.std.proofs.Common.{refl, rules}
use Rattle.graph_read.proofs.OneLine.{vertex_none, vertex_in_lem}
use Rattle.graph_read.proofs.edges.is_vertex.Goals as goal

pub returns-then-value-ne0 : goal.returns-then-value-ne0
returns-then-value-ne0 c =
    vertex_in_lem _ _ c.requires c.if-value-ne0.true _ refl

pub returns-else-value-ne0 : goal.returns-else-value-ne0
returns-else-value-ne0 c =
    vertex_none _ _ c.if-value-ne0.false (search rules)
