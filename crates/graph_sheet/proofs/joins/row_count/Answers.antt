use Rattle.std.proofs.Common.{arith}
use Rattle.sets.proofs.Below.{count_le}
use Rattle.vset.specs.Words.{has}
use Rattle.dimacs.specs.Made.{joined}
use Rattle.graph_sheet.specs.Pairs.{joined_in}
use Rattle.graph_sheet.proofs.Pairing.{in_joined, count_zero, from_few, count_more, count_all}
use Rattle.graph_sheet.proofs.joins.row_count.Goals as goal

pub loop-y-init : goal.loop-y-init
loop-y-init c =
    count_zero _

pub is_joined-requires : goal.is_joined-requires
is_joined-requires c =
    (c.requires.0, omega arith, omega arith)

pub overflow_add-m : goal.overflow_add-m
overflow_add-m c =
    let adj = joined c.args.n (has c.args.codes.now) in
    omega (arith, count_le c.loop-y.y (joined_in adj c.args.p c.args.x), c.loop-y.invariant, c.from-m.ensures, from_few c.is_joined.result)

pub loop-y-preserved : goal.loop-y-preserved
loop-y-preserved c =
    let l = c.loop-y in
    let joins = in_joined (has c.args.codes.now) c.args.n c.args.p c.args.x l.y (omega arith) (omega arith) c.is_joined.ensures in
    count_more _ l.invariant joins c.from-m.ensures

pub returns : goal.returns
returns c =
    count_all _ c.loop-y.y _ (omega arith) c.loop-y.invariant
