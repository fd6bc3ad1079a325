use Rattle.std.proofs.Common.{arith}
use Rattle.graph_read.proofs.Firsts.{first_none, first_more, first_fits}
use Rattle.graph_sheet.proofs.Pairing.{firsts_none, firsts_more, firsts_all}
use Rattle.graph_sheet.proofs.joins.keep_firsts.Goals as goal

pub loop-l-init : goal.loop-l-init
loop-l-init c =
    (first_none _, firsts_none _ _)

pub overflow_add-first : goal.overflow_add-first
overflow_add-first c =
    let l = c.loop-l in
    omega (arith, first_fits c.args.counts.now c.args.s.links l.l l.first (omega arith) l.invariant.0)

pub loop-l-preserved : goal.loop-l-preserved
loop-l-preserved c =
    let l = c.loop-l in (
      first_more c.args.counts.now c.args.s.links l.l l.first (omega arith) l.invariant.0,
      firsts_more l.l l.first (omega arith) l.invariant.1 l.invariant.0,
    )

pub returns : goal.returns
returns c =
    firsts_all c.loop-l.l _ (omega arith) c.loop-l.invariant.1
