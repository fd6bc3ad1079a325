use Rattle.std.proofs.Common.{rules, arith}
use Rattle.graph_export.proofs.Walks.{at_neighbour, lines_start, lines_more, lines_to_lem}
use Rattle.graph_export.proofs.texts.put_row.Goals as goal

pub next_neighbour-v-requires : goal.next_neighbour-v-requires
next_neighbour-v-requires c =
    (c.requires.0, search rules, search rules)

pub loop-v-init : goal.loop-v-init
loop-v-init c =
    let L = c.next_neighbour-v.ensures in
    (at_neighbour (omega arith) L, lines_start (omega arith) _ L)

pub put_edge-requires : goal.put_edge-requires
put_edge-requires c =
    let l = c.loop-v in
    let P = c.requires in
    (omega (arith, P.0.few), omega (arith, P.0.few), omega (arith, l.invariant.1.few, P.2))

pub next_neighbour-v-requires-in-loop-v : goal.next_neighbour-v-requires-in-loop-v
next_neighbour-v-requires-in-loop-v c = (
  c.requires.0,
  search rules,
  search rules,
)

pub loop-v-smaller : goal.loop-v-smaller
loop-v-smaller c =
    omega (arith, c.next_neighbour-v-in-loop-v.ensures.after)

pub loop-v-preserved : goal.loop-v-preserved
loop-v-preserved c =
    let L = c.next_neighbour-v-in-loop-v.ensures in
    let I = c.loop-v.invariant in (
      at_neighbour (omega (arith, I.0.above)) L,
      lines_more (omega arith) I.1 I.0 c.loop-v-test.true c.put_edge.ensures.0 c.put_edge.ensures.1 L,
    )

pub returns : goal.returns
returns c =
    let I = c.loop-v.invariant in
    lines_to_lem (omega (arith, I.0.within)) (omega (arith, I.0.within)) I.1
