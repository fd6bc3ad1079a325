-- `channels::is_channel_list` meets its contract.
use Rattle.std.proofs.Common.{◌≡◌, true}
use Rattle.sets.specs.Below.{all}
use Rattle.channels.specs.Channels.{channel_ok}
use Rattle.channels.proofs.is_channel_list.Given as goal

abbrev pub invariant-loop-i : goal.invariant-loop-i
invariant-loop-i l =
    all l.i (channel_ok l.channels) ≡ true
