-- `graph_read::edges::of_lines` meets its contract.
use Rattle.graph_read.proofs.FirstLine.{of_none, of_counted}
use Rattle.graph_read.proofs.edges.of_lines.Goals as goal

pub returns-in_err-lines : goal.returns-in_err-lines
returns-in_err-lines c =
    rw c.from_residual.ensures (of_none _ c.in_err-lines.was)

pub returns : goal.returns
returns c =
    of_counted _ _ c.in_ok-lines.was c.then_some.ensures
