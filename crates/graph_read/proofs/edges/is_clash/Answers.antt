-- `graph_read::edges::is_clash` meets its contract.
use Rattle.std.proofs.Common.{rules}
use Rattle.graph_read.proofs.EdgeLines.{clash_inside, clash_repeated}
use Rattle.graph_read.proofs.edges.is_clash.Goals as goal

pub returns-then-layers-u : goal.returns-then-layers-u
returns-then-layers-u c cs t =
    let p = c.requires in
    clash_inside t p.0.few _ _ _ p.1 p.2 c.if-layers-u.true (search rules)

pub returns-else-layers-u : goal.returns-else-layers-u
returns-else-layers-u c cs t =
    let p = c.requires in
    clash_repeated t p.0.few _ _ _ p.1 p.2 c.if-layers-u.false c.is_joined.ensures
