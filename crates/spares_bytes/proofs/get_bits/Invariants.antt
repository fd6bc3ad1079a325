-- `spares_bytes::get_bits` meets its contract: the first i numbers are written as bits.
use Rattle.std.proofs.Common.{◌≡◌, ◌++◌, drop, ℕ, ℤ, List, get_or}
use Rattle.std.specs.Prelude.{pos}
use Rattle.sets.specs.Below.{tabulate}
use Rattle.spares_bytes.specs.SparesBytes.{bits32}
use Rattle.spares_bytes.proofs.get_bits.Given as goal

-- the bits of the number at a place
abbrev pub bits_at : List ℤ → ℕ → ℕ
bits_at from i = bits32 (get_or from i (pos 0))

abbrev pub invariant-loop-i : goal.invariant-loop-i
invariant-loop-i l =
    l.to ≡ tabulate l.i (bits_at l.from) ++ drop l.i l.initial.to
