use Rattle.std.proofs.Common.{rules}
use Rattle.wire_put.specs.Puts.{full}
use Rattle.wire_put.proofs.put_full.Goals as goal

pub returns : goal.returns
unfolding full
returns c = search rules
