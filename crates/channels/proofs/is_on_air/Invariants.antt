-- `channels::is_on_air` meets its contract.
use Rattle.std.proofs.Common.{◌≡◌, false, get_or}
use Rattle.sets.specs.Below.{any}
use Rattle.channels.specs.Channels.{covers}
use Rattle.channels.proofs.is_on_air.Given as goal

abbrev pub invariant-loop-c : goal.invariant-loop-c
invariant-loop-c l =
    any l.c-index (λ j. covers (get_or l.channels j 0) l.x) ≡ false
