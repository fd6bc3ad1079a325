use Rattle.std.proofs.Common.{ap, ◌∙◌, ◌+◌, get_or-take, length-take-le, arith}
use Rattle.graph_read.proofs.Firsts.{first_none, first_more, first_fits}
use Rattle.graph_read.proofs.links.first_of.Goals as goal

pub loop-count-init : goal.loop-count-init
loop-count-init c =
    first_none _

pub overflow_add-first : goal.overflow_add-first
overflow_add-first c =
    let i = c.loop-count.count-index in
    let n = length-take-le c.args.l c.args.counts.now (omega (arith, c.requires.0.room)) in
    let e = get_or-take c.args.l c.args.counts.now i 0 (omega arith) in
    omega (arith, c.requires.0.few, first_fits c.args.counts.now c.args.k i c.loop-count.first (omega arith) c.loop-count.invariant)

pub loop-count-preserved : goal.loop-count-preserved
loop-count-preserved c =
    let i = c.loop-count.count-index in
    let n = length-take-le c.args.l c.args.counts.now (omega (arith, c.requires.0.room)) in
    let e = get_or-take c.args.l c.args.counts.now i 0 (omega arith) in
    ap (λ x. c.loop-count.first + x) e ∙ first_more c.args.counts.now c.args.k i c.loop-count.first (omega arith) c.loop-count.invariant
