use Rattle.std.proofs.Common.{rules, sym}
use Rattle.sets.proofs.Below.{all_none, loop_ends, loop_goes_on, loop_stops}
use Rattle.channels.specs.Channels.{channels_ok}
use Rattle.channels.proofs.is_channel_list.Goals as goal

pub loop-i-init : goal.loop-i-init
loop-i-init c =
    all_none _

pub returns-then-not-is_channel : goal.returns-then-not-is_channel
unfolding channels_ok
returns-then-not-is_channel c =
    search (rules, loop_stops, sym)

pub loop-i-preserved : goal.loop-i-preserved
loop-i-preserved c =
    search (rules, loop_goes_on)

pub returns : goal.returns
unfolding channels_ok
returns c =
    search (rules, loop_ends, sym)
