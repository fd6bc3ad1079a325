-- The first line, then the `e` lines.
use Rattle.std.proofs.Common.{rules, arith}
use Rattle.graph_export.proofs.Walks.{square_few, first_line, graph_put}
use Rattle.graph_export.proofs.texts.put_graph.Goals as goal

pub overflow_cast-n : goal.overflow_cast-n
overflow_cast-n c =
    omega (arith, c.requires.few)

pub overflow_cast-m : goal.overflow_cast-m
overflow_cast-m c =
    omega (arith, c.edge_count-m.ensures.1, square_few _ c.requires.few)

pub put_edges-requires : goal.put_edges-requires
put_edges-requires c = (c.requires, omega (arith, c.put_numbers.ensures.1, c.new-text.ensures.start.1))

pub returns : goal.returns
returns c = record {
  few = omega (arith, c.put_edges.ensures.few, c.put_numbers.ensures.1, c.new-text.ensures.start.1, square_few _ c.requires.few);
  wrote = λ adj H.
      let put = graph_put c.requires.few c.edge_count-m.ensures.0
      (first_line c.args.n c.edge_count-m.result c.put_numbers.ensures.0) c.put_edges.ensures adj H in
      let w = put.wrote in search rules;
}
