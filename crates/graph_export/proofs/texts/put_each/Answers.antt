use Rattle.std.proofs.Common.{arith}
use Rattle.sheet_rows.proofs.Rows.{has_link}
use Rattle.graph_export.proofs.Walks.{counts_none, counts_more, counts_done}
use Rattle.graph_export.proofs.texts.put_each.Goals as goal

pub loop-l-init : goal.loop-l-init
loop-l-init c = (omega arith, counts_none _ _)

pub link_count-requires : goal.link_count-requires
link_count-requires c =
    has_link c.args.sheet.now c.args.k c.loop-l.l c.requires.0 (omega arith)

pub overflow_cast-link_count : goal.overflow_cast-link_count
overflow_cast-link_count c =
    omega (arith, c.link_count.ensures.1)

pub put_count-requires : goal.put_count-requires
put_count-requires c = omega arith

pub loop-l-preserved : goal.loop-l-preserved
loop-l-preserved c =
    let l = c.loop-l in
    let n = c.link_count in (
      omega (arith, c.put_count.ensures.1),
      counts_more l.l _ n.result n.ensures.0 l.invariant.1 c.put_count.ensures.0,
    )

pub returns : goal.returns
returns c =
    let l = c.loop-l in
    (counts_done l.l _ _ (omega arith) l.invariant.1, omega (arith, l.invariant.0))
