use borrow.Author.Rules.{rules}
use native.Mathlib.Omega.{arith}
use Rattle.graph_export.proofs.Walks.{at_neighbour, count_start, count_more, counted_to}
use Rattle.graph_export.proofs.edges.row_count.Goals as goal

pub next_neighbour-v-requires : goal.next_neighbour-v-requires
next_neighbour-v-requires c =
    (c.requires.0, search rules, search rules)

pub loop-v-init : goal.loop-v-init
loop-v-init c =
    let L = c.next_neighbour-v.ensures in
    (search rules, at_neighbour (omega arith) L, count_start (omega arith) L)

pub overflow_add-m : goal.overflow_add-m
overflow_add-m c =
    omega (arith, c.loop-v.invariant.0)

pub overflow_add-v : goal.overflow_add-v
overflow_add-v c =
    omega arith

pub next_neighbour-v-requires-in-loop-v : goal.next_neighbour-v-requires-in-loop-v
next_neighbour-v-requires-in-loop-v c =
    (c.requires.0, search rules, search rules)

pub loop-v-smaller : goal.loop-v-smaller
loop-v-smaller c =
    omega (arith, c.next_neighbour-v-in-loop-v.ensures.after)

pub loop-v-preserved : goal.loop-v-preserved
loop-v-preserved c =
    let L = c.next_neighbour-v-in-loop-v.ensures in
    let I = c.loop-v.invariant in (
      omega (arith, I.0, L.after),
      at_neighbour (omega (arith, I.1.above)) L,
      count_more (omega arith) I.2 I.1 c.loop-v-test.true L,
    )

pub returns : goal.returns
returns c =
    let I = c.loop-v.invariant in
    (counted_to (omega (arith, I.1.within)) I.2, omega (arith, I.0, I.1.within))
