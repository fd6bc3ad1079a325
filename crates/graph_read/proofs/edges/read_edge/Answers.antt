-- `graph_read::edges::read_edge` meets its contract.
use Rattle.std.proofs.Common.{arith}
use Rattle.graph_read.proofs.Numbers.{told_got}
use Rattle.graph_read.proofs.OneLine.{edge_none, edge_half, edge_first_bad, edge_second_bad, edge_there}
use Rattle.graph_read.proofs.edges.read_edge.Goals as goal

pub returns-in_err-u : goal.returns-in_err-u
returns-in_err-u c =
    let s = c.args in
    rw c.from_residual.ensures (edge_none s.text.now s.at s.n c.in_err-u.was c.read_field.ensures)

pub read_field-requires-2 : goal.read_field-requires-2
read_field-requires-2 c =
    (told_got c.in_ok-u.was c.read_field.ensures).within

pub returns-in_err-v : goal.returns-in_err-v
returns-in_err-v c =
    let s = c.args in
    let first = told_got c.in_ok-u.was c.read_field.ensures in
    rw c.from_residual-in_err-v.ensures (edge_half s.text.now s.at s.n first c.in_err-v.was c.read_field-2.ensures)

pub returns-then-not-is_vertex : goal.returns-then-not-is_vertex
returns-then-not-is_vertex c =
    let s = c.args in
    let first = told_got c.in_ok-u.was c.read_field.ensures in
    let second = told_got c.in_ok-v.was c.read_field-2.ensures in
    edge_first_bad s.text.now s.at s.n first second c.is_vertex.ensures c.if-not-is_vertex.true

pub returns-then-not-is_vertex-2 : goal.returns-then-not-is_vertex-2
returns-then-not-is_vertex-2 c =
    let s = c.args in
    let first = told_got c.in_ok-u.was c.read_field.ensures in
    let second = told_got c.in_ok-v.was c.read_field-2.ensures in
    edge_second_bad s.text.now s.at s.n first second c.is_vertex-2.ensures c.if-not-is_vertex-2.true

pub overflow_sub-result : goal.overflow_sub-result
overflow_sub-result c =
    let p = c.is_vertex.ensures.small c.if-not-is_vertex.false in omega (arith, p.0)

pub overflow_sub-result-2 : goal.overflow_sub-result-2
overflow_sub-result-2 c =
    let p = c.is_vertex-2.ensures.small c.if-not-is_vertex-2.false in omega (arith, p.0)

pub returns : goal.returns
returns c =
    let s = c.args in
    let p = c.requires in
    let first = told_got c.in_ok-u.was c.read_field.ensures in
    let second = told_got c.in_ok-v.was c.read_field-2.ensures in
    edge_there s.text.now s.at s.n first second (omega (arith, p.0)) p.1
    c.is_vertex.ensures c.if-not-is_vertex.false c.is_vertex-2.ensures c.if-not-is_vertex-2.false
