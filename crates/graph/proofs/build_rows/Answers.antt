use Rattle.rows.proofs.Rows.{outside_none}
use Rattle.graph.proofs.Rows.{separated_built}
use Rattle.graph.proofs.build_rows.Goals as goal

pub loop-j-init : goal.loop-j-init
loop-j-init c =
    let a = c.args in
    let B = separated_built a.sheet.now a.fs.now a.rs.now a.ps.now a.place.k
    c.start_rows.ensures
    c.separate_rows.ensures in
    record { rows = B.rows; rest = outside_none _ _ _ }
