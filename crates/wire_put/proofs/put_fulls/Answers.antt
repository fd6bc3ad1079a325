use Rattle.std.proofs.Common.{arith, slice_index}
use Rattle.wire_put.proofs.Fulls.{full_length, fulls_none, fulls_more, fulls_done}
use Rattle.wire_put.proofs.put_fulls.Goals as goal

pub loop-x-init : goal.loop-x-init
loop-x-init c = (omega arith, fulls_none c.args.xs.now _)

pub loop-x-preserved : goal.loop-x-preserved
loop-x-preserved c =
    let l = c.loop-x in
    let p = c.put_full.ensures in (
      omega (arith, p.wrote.end, full_length (slice_index c.args.xs.now l.x-index)),
      fulls_more c.args.xs.now l.x-index (omega arith) l.invariant.1 p,
    )

pub returns : goal.returns
returns c = fulls_done _ c.loop-x.x-index (omega arith) c.loop-x.invariant.1
