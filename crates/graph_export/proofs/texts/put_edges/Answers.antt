use Rattle.std.proofs.Common.{◌≡◌, arith}
use Rattle.graph_export.proofs.Walks.{row_more, rows_few, lines_none, lines_then, lines_to_lem}
use Rattle.graph_export.proofs.texts.put_edges.Goals as goal

pub loop-u-init : goal.loop-u-init
loop-u-init c = lines_to_lem (omega arith) (omega arith) (lines_none _ _ _)

pub put_row-requires : goal.put_row-requires
put_row-requires c =
    let l = c.loop-u in
    let few = rows_few l.u c.args.n (omega arith) c.requires.0.few in
    (c.requires.0, omega arith, omega (arith, few, l.invariant.few, c.requires.0.few, c.requires.1))

pub loop-u-preserved : goal.loop-u-preserved
loop-u-preserved c =
    let l = c.loop-u in
    let e = row_more l.u c.args.n in
    lines_to_lem e (omega (arith, e)) (lines_then l.invariant c.put_row.ensures)

pub returns : goal.returns
returns c =
    let l = c.loop-u in
    let e : l.u ≡ c.args.n = omega arith in
    rw e at l.invariant
