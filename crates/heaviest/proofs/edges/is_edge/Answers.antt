-- `heaviest::edges::is_edge` meets its contract, test by test.
use native.Mathlib.Nat.{div-le_self}
use native.Mathlib.Omega.{arith}
use Rattle.heaviest.proofs.Kept.{edge_back, edge_early, edge_last, edge_next, edge_first}
use Rattle.heaviest.proofs.edges.is_edge.Goals as goal

pub returns-then-a-b : goal.returns-then-a-b
returns-then-a-b c =
    edge_back _ _ _ _ c.if-a-b.true

pub overflow_add-b : goal.overflow_add-b
overflow_add-b c =
    omega (arith, div-le_self c.args.v c.args.m)

pub returns-then-b-k : goal.returns-then-b-k
returns-then-b-k c =
    edge_early _ _ _ _ c.if-a-b.false c.if-b-k.true

pub returns-then-both_last : goal.returns-then-both_last
returns-then-both_last c =
    edge_last _ _ _ _ c.if-a-b.false (omega (arith, c.if-b-k.false)) c.both_last.ensures
    c.if-both_last.true

pub overflow_add-a : goal.overflow_add-a
overflow_add-a c =
    omega (arith, div-le_self c.args.u c.args.m)

pub returns-then-a-k : goal.returns-then-a-k
returns-then-a-k c =
    edge_next _ _ _ _ c.if-a-b.false (omega (arith, c.if-b-k.false)) c.both_last.ensures
    c.if-both_last.false
    c.if-a-k.true

pub returns : goal.returns
returns c =
    edge_first _ _ _ _ c.if-a-b.false (omega (arith, c.if-b-k.false)) c.both_last.ensures
    c.if-both_last.false
    c.if-a-k.false
