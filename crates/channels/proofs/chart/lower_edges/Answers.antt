-- `channels::lower_edges` meets its contract: the test of all entries together computes to yes.
use Rattle.std.proofs.Common.{refl}
use Rattle.sets.specs.Below.{all}
use Rattle.channels.specs.Channels.{lower_edge}
use Rattle.channels.proofs.Entries.{is_chart, chart}
use Rattle.channels.proofs.chart.lower_edges.Goals as goal

pub returns : goal.returns
unfolding all lower_edge is_chart
returns c =
    chart _ refl
