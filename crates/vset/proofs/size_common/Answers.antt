-- `vset::size_common` meets its contract: the words are what two rows have in common.
use Rattle.std.proofs.Common.{◌≡◌, get_or, bit_and, rules}
use Rattle.sets.specs.Sets.{◌∩◌}
use Rattle.vset.specs.Words.{has}
use Rattle.vset.proofs.Words.{common}
use Rattle.vset.proofs.size_common.Goals as goal

pub returns : goal.returns
returns c =
    let a = c.args.a.now in
    let b = c.args.b.now in
    c.size_by.ensures (has a ∩ has b)
    (λ i x h made fits. let e : x ≡ bit_and (get_or a i 0) (get_or b i 0) = search rules in rw e (common a b i))
