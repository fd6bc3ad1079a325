-- `heaviest::put_by` meets its contract: the graph is kept in the words before.
use borrow.Author.Rules.{rules}
use Rattle.graph_read.proofs.Texts.{cleared}
use Rattle.heaviest.proofs.put_by.Goals as goal

pub keep_edges-requires : goal.keep_edges-requires
keep_edges-requires c =
    (search rules, search rules, cleared (search rules) c.clear.ensures)

pub put_graph-requires : goal.put_graph-requires
put_graph-requires c = (
  search rules,
  search rules,
  c.set_counts.ensures,
  search rules,
  search rules,
  c.keep_edges.ensures,
  search rules,
)
