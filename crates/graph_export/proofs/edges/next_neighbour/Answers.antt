-- `graph_export::edges::next_neighbour` meets its contract: the row is a part of the words.
use borrow.Author.Rules.{rules}
use Prim.Native.Nat.{◌+◌, ◌≤◌}
use native.Mathlib.Omega.{arith}
use lib.ListN.{length}
use Rattle.graph_export.proofs.Walks.{part_row, part_length, least_below, least_past}
use Rattle.graph_export.proofs.edges.next_neighbour.Goals as goal

pub row_at-a-requires : goal.row_at-a-requires
row_at-a-requires c =
    (c.requires.1, omega (arith, c.requires.0.few))

pub overflow_add-e : goal.overflow_add-e
overflow_add-e c =
    let inside : c.row_at-a.result + 16 ≤ length c.args.part.now =
    omega (arith, c.row_at-a.ensures.inside, c.requires.0.inside) in
    omega (arith, inside)

pub next_member-v-requires : goal.next_member-v-requires
next_member-v-requires c =
    let inside : c.row_at-a.result + 16 ≤ length c.args.part.now =
    omega (arith, c.row_at-a.ensures.inside, c.requires.0.inside) in
    let l = part_length c.args.part.now _ inside in record {
      row_bound = rw l (search rules);
      from_bound = rw l (omega (arith, c.requires.0.few, c.requires.2));
    }

pub returns-then-v-n : goal.returns-then-v-n
returns-then-v-n c =
    let inside : c.row_at-a.result + 16 ≤ length c.args.part.now =
    omega (arith, c.row_at-a.ensures.inside, c.requires.0.inside) in
    let P = c.requires in
    let l = part_length c.args.part.now _ inside in
    least_below (part_row _ _ c.args.u c.row_at-a.ensures.here) c.next_member-v.ensures
    c.if-v-n.true
    (rw l P.0.few)

pub returns-else-v-n : goal.returns-else-v-n
returns-else-v-n c =
    least_past (part_row _ _ c.args.u c.row_at-a.ensures.here) c.next_member-v.ensures
    (omega (arith, c.if-v-n.false))
    c.requires.2
