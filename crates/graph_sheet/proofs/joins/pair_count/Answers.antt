use Rattle.std.proofs.Common.{arith}
use Rattle.graph_sheet.proofs.Pairing.{row_few, rows_zero, rows_one_more, pairs_counted}
use Rattle.graph_sheet.proofs.joins.pair_count.Goals as goal

pub loop-x-init : goal.loop-x-init
loop-x-init c =
    (omega arith, rows_zero _ _)

pub overflow_add-m : goal.overflow_add-m
overflow_add-m c =
    let A = c.requires.1 in
    omega (arith, row_few A _ c.row_count-m.ensures)

pub loop-x-preserved : goal.loop-x-preserved
loop-x-preserved c =
    let l = c.loop-x in
    let r = c.row_count-m.ensures in
    (omega (arith, row_few c.requires.1 _ r), rows_one_more _ c.args.p l.x l.invariant.1 r)

pub returns : goal.returns
returns c =
    let l = c.loop-x in
    let A = c.requires.1 in
    pairs_counted _ c.args.p l.x (omega arith) (omega arith) l.invariant.1
