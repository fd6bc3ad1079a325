-- `graph_read::edges::read_graph` meets its contract.
use Rattle.graph_read.proofs.Numbers.{told_got}
use Rattle.graph_read.proofs.FirstLine.{head_none, head_other, lines_none, lines_all}
use Rattle.graph_read.proofs.edges.read_graph.Goals as goal

pub returns-in_err-head : goal.returns-in_err-head
returns-in_err-head c cs t =
    let s = c.args in
    rw c.from_residual.ensures (head_none cs s.text.now s.codes.now c.in_err-head.was c.read_field.ensures)

pub returns-then-head-n : goal.returns-then-head-n
returns-then-head-n c cs t =
    let first = told_got c.in_ok-head.was c.read_field.ensures in
    head_other cs c.args.text.now c.args.codes.now c.requires.0.few t.vertices first c.if-head-n.true

pub read_field-requires-2 : goal.read_field-requires-2
read_field-requires-2 c =
    (told_got c.in_ok-head.was c.read_field.ensures).within

pub returns-in_err-m : goal.returns-in_err-m
returns-in_err-m c cs t =
    let first = told_got c.in_ok-head.was c.read_field.ensures in
    rw c.from_residual-in_err-m.ensures
    (lines_none cs c.args.text.now c.args.codes.now c.requires.0.few t.vertices first c.if-head-n.false
    c.in_err-m.was c.read_field-2.ensures)

pub read_edges-requires : goal.read_edges-requires
read_edges-requires c =
    let p = c.requires in
    ((told_got c.in_ok-m.was c.read_field-2.ensures).within, p.0, p.1)

pub returns : goal.returns
returns c cs t =
    let first = told_got c.in_ok-head.was c.read_field.ensures in
    let second = told_got c.in_ok-m.was c.read_field-2.ensures in
    lines_all cs c.args.text.now _ c.requires.0.few t.vertices first c.if-head-n.false second
    (c.read_edges.ensures cs t) c.of_lines.ensures
