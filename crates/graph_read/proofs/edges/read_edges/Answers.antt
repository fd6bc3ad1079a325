use Rattle.std.proofs.Common.{refl, arith, rules}
use Rattle.graph_read.proofs.OneLine.{told_line}
use Rattle.graph_read.proofs.EdgeLines.{code_few, so_far_none, bad_edge, so_far_more, edges_done}
use Rattle.graph_read.proofs.edges.read_edges.Goals as goal

pub loop-place-init : goal.loop-place-init
loop-place-init c =
    (search rules, search rules, λ cs t. so_far_none cs _ _ c.requires.2)

pub returns-in_default : goal.returns-in_default
returns-in_default c cs t =
    bad_edge (c.loop-place.invariant.2 cs t) c.args.n _ t.vertices (omega arith) refl c.in_default.ensures

pub is_clash-clash-requires : goal.is_clash-clash-requires
is_clash-clash-requires c =
    let e = told_line refl c.in-Some.ensures in
    let f = c.requires.1 in
    (record { few = f.few; places = f.places; room = search rules }, e.first, e.second)

pub overflow_mul-e : goal.overflow_mul-e
overflow_mul-e c =
    let e = told_line refl c.in-Some.ensures in
    omega (arith, code_few c.args.n _ _ c.requires.1.few e.first e.second)

pub overflow_add-e : goal.overflow_add-e
overflow_add-e c =
    let e = told_line refl c.in-Some.ensures in
    omega (arith, code_few c.args.n _ _ c.requires.1.few e.first e.second)

pub insert-requires : goal.insert-requires
insert-requires c =
    let e = told_line refl c.in-Some.ensures in
    omega (arith, code_few c.args.n _ _ c.requires.1.few e.first e.second, c.requires.1.room)

pub overflow_add-count : goal.overflow_add-count
overflow_add-count c =
    let e = told_line refl c.in-Some.ensures in
    omega (arith, e.later, e.within)

pub loop-place-smaller : goal.loop-place-smaller
loop-place-smaller c =
    let e = told_line refl c.in-Some.ensures in
    omega (arith, e.later, e.within)

pub loop-place-preserved : goal.loop-place-preserved
loop-place-preserved c =
    let e = told_line refl c.in-Some.ensures in
    let l = c.loop-place in (
      e.within,
      omega (arith, e.later, l.invariant.1),
      λ cs t. so_far_more (l.invariant.2 cs t) t.vertices (omega arith) e (c.is_clash-clash.ensures cs t)
          refl c.insert.ensures,
    )

pub returns : goal.returns
returns c cs t =
    let l = c.loop-place in
    edges_done (l.invariant.2 cs t) _ refl (omega arith) (omega (arith, l.invariant.1, l.invariant.0))
