-- `vset::is_empty_common` meets its contract. The invariant: no vertex is in both sets in the words below i.
use Rattle.std.proofs.Common.{◌*◌}
use Rattle.sets.specs.Sets.{◌∩◌}
use Rattle.vset.specs.Words.{has, None}
use Rattle.vset.proofs.is_empty_common.Given as goal

abbrev pub invariant-loop-i : goal.invariant-loop-i
invariant-loop-i l =
    None (has l.a ∩ has l.b) 0 (64 * l.i)
