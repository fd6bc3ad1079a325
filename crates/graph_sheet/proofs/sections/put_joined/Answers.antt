use native.Mathlib.Omega.{arith}
use Rattle.graph_sheet.proofs.Writing.{join_none, join_more}
use Rattle.graph_sheet.proofs.PairWriting.{joined_put}
use Rattle.graph_sheet.proofs.sections.put_joined.Goals as goal

pub loop-x-init : goal.loop-x-init
loop-x-init c =
    (omega arith, join_none _ _)

pub put_row-requires : goal.put_row-requires
put_row-requires c =
    let l = c.loop-x in
    let A = c.requires.1 in
    (c.requires.0, A, omega arith, omega (arith, l.invariant.0))

pub loop-x-preserved : goal.loop-x-preserved
loop-x-preserved c =
    let l = c.loop-x in
    let p = c.put_row.ensures in
    (omega (arith, p.1, l.invariant.0), join_more _ l.x l.invariant.1 p.0)

pub returns : goal.returns
returns c =
    let l = c.loop-x in
    let A = c.requires.1 in
    (joined_put _ c.args.p l.x (omega arith) l.invariant.1, omega (arith, l.invariant.0))
