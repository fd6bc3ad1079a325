use Rattle.std.proofs.Common.{◌≡◌, arith, rules}
use Rattle.graph_export.proofs.Walks.{row_more, rows_few, counted_none, counted_then, counted_to}
use Rattle.graph_export.proofs.edges.edge_count.Goals as goal

pub loop-u-init : goal.loop-u-init
loop-u-init c =
    (search rules, counted_to (omega arith) (counted_none _ _))

pub overflow_add-m : goal.overflow_add-m
overflow_add-m c =
    let l = c.loop-u in
    let few = rows_few l.u c.args.n (omega arith) c.requires.few in
    omega (arith, few, l.invariant.0, c.row_count-m.ensures.1, c.requires.few)

pub loop-u-preserved : goal.loop-u-preserved
loop-u-preserved c =
    let l = c.loop-u in
    let e = row_more l.u c.args.n in (
      omega (arith, e, l.invariant.0, c.row_count-m.ensures.1),
      counted_to e (counted_then l.invariant.1 c.row_count-m.ensures.0),
    )

pub returns : goal.returns
returns c =
    let l = c.loop-u in
    let e : l.u ≡ c.args.n = omega arith in
    (rw e at l.invariant.1, rw e at l.invariant.0)
