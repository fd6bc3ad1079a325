-- `graph_export::texts::put_edge` meets its contract.
use native.Mathlib.Omega.{arith}
use Rattle.lines.specs.Lines.{ascii}
use Rattle.graph_export.proofs.texts.put_edge.Goals as goal

pub returns : goal.returns
unfolding ascii
returns c =
    let r = c.put_numbers.ensures in (r.0, omega (arith, r.1))
