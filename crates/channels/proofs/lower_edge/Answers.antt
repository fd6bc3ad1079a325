-- `channels::lower_edge` meets its contract: it reads the chart.
use Rattle.std.proofs.Common.{arith}
use Rattle.channels.specs.Channels.{lower_edge}
use Rattle.channels.specs.Chart.{Chart}
use Rattle.channels.proofs.lower_edge.Goals as goal

pub overflow_cast-result : goal.overflow_cast-result
unfolding Chart lower_edge
overflow_cast-result c =
    rw c.from.ensures (omega (arith, c.lower_edges.ensures c.args.c c.requires.0 c.requires.1, c.requires.1))

pub returns : goal.returns
unfolding Chart
returns c =
    rw c.from.ensures (c.lower_edges.ensures c.args.c c.requires.0 c.requires.1)
