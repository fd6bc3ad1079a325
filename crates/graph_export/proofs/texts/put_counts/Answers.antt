use Rattle.std.proofs.Common.{rules}
use Rattle.graph_export.proofs.texts.put_counts.Goals as goal

pub returns : goal.returns
returns c = let w = c.put_each.ensures.0.wrote in (search rules, c.put_each.ensures.1)
