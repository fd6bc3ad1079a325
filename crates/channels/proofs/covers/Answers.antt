-- `channels::covers` meets its contract.
use Rattle.std.proofs.Common.{rules}
use Rattle.channels.specs.Channels.{lower_edge, covers}
use Rattle.channels.proofs.covers.Goals as goal

pub overflow_add-result : goal.overflow_add-result
unfolding lower_edge
overflow_add-result c =
    search rules

pub returns : goal.returns
unfolding covers
returns c =
    cc
