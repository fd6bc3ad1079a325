use Rattle.std.proofs.Common.{ap, ◌∙◌, ◌+◌, take, length-take-le, get_or-take, arith}
use Rattle.graph_read.proofs.Firsts.{first_none, first_more, first_fits}
use Rattle.graph_sheet.proofs.Writing.{join_none, join_more, join_done, link_put, links_put}
use Rattle.graph_sheet.proofs.sections.put_links.Goals as goal

pub loop-count-init : goal.loop-count-init
loop-count-init c =
    (omega arith, first_none _, join_none _ _)

pub put_halves-requires : goal.put_halves-requires
put_halves-requires c =
    let l = c.loop-count in
    let n = length-take-le c.args.k c.args.counts.now c.requires.0.room in
    let e = get_or-take c.args.k c.args.counts.now l.count-index 0 (omega arith) in
    let f = first_fits c.args.counts.now c.args.k l.count-index l.first (omega arith) l.invariant.1 in
    (omega (arith, c.requires.0.few), omega (arith, c.requires.0.few), omega (arith, c.requires.0.links))

pub overflow_add-first : goal.overflow_add-first
overflow_add-first c =
    let l = c.loop-count in
    let n = length-take-le c.args.k c.args.counts.now c.requires.0.room in
    let e = get_or-take c.args.k c.args.counts.now l.count-index 0 (omega arith) in
    let f = first_fits c.args.counts.now c.args.k l.count-index l.first (omega arith) l.invariant.1 in
    omega (arith, c.requires.0.few)

pub loop-count-preserved : goal.loop-count-preserved
loop-count-preserved c =
    let counts = c.args.counts.now in
    let k = c.args.k in
    let l = c.loop-count in
    let p = c.put_halves.ensures in
    let n = length-take-le k counts c.requires.0.room in
    let e = get_or-take k counts l.count-index 0 (omega arith) in (
      omega (arith, p.wrote.end, l.invariant.0),
      ap (λ x. l.first + x) e ∙ first_more counts k l.count-index l.first (omega arith) l.invariant.1,
      join_more _ l.count-index l.invariant.2 (link_put (take k counts) l.count-index l.first l.invariant.1 p),
    )

pub returns : goal.returns
returns c =
    let l = c.loop-count in
    let n = length-take-le c.args.k c.args.counts.now c.requires.0.room in
    let rows = join_done _ l.count-index c.args.k (omega arith) l.invariant.2 in
    (links_put c.args.counts.now c.args.k c.requires.0.room rows, omega (arith, l.invariant.0, c.requires.0.links))
