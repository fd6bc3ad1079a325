use native.Mathlib.Omega.{arith}
use Rattle.graph_sheet.proofs.Writing.{join_none, join_more}
use Rattle.graph_sheet.proofs.PairWriting.{row_put}
use Rattle.graph_sheet.proofs.sections.put_row.Goals as goal

pub loop-y-init : goal.loop-y-init
loop-y-init c =
    (omega arith, join_none _ _)

pub put_pair-requires : goal.put_pair-requires
put_pair-requires c =
    let l = c.loop-y in
    let A = c.requires.1 in
    (c.requires.0, A, c.requires.2, omega arith, omega (arith, l.invariant.0))

pub loop-y-preserved : goal.loop-y-preserved
loop-y-preserved c =
    let l = c.loop-y in
    let p = c.put_pair.ensures in
    (omega (arith, p.1, l.invariant.0), join_more _ l.y l.invariant.1 p.0)

pub returns : goal.returns
returns c =
    let l = c.loop-y in
    let A = c.requires.1 in
    (row_put _ c.args.p c.args.x l.y (omega arith) l.invariant.1, omega (arith, l.invariant.0))
