-- `channels::is_channel` meets its contract.
use Rattle.std.proofs.Common.{refl, eq-eqb, ne_eqb}
use Rattle.channels.specs.Channels.{channel_ok}
use Rattle.channels.proofs.is_channel.Goals as goal

pub returns-then-i-eq0 : goal.returns-then-i-eq0
unfolding channel_ok
returns-then-i-eq0 c =
    rw (eq-eqb _ 0 c.if-i-eq0.true) refl

pub returns : goal.returns
unfolding channel_ok
returns c =
    rw (ne_eqb _ 0 c.if-i-eq0.false) refl
