-- `vset::contains` meets its contract. The contract is what it computes.
use Rattle.std.proofs.Common.{rules}
use Rattle.vset.specs.Words.{bit, has}
use Rattle.vset.proofs.contains.Goals as goal

pub returns : goal.returns
unfolding has bit
returns c =
    search rules
