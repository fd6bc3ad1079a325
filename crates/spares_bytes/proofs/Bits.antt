-- The bits of a signed number: one below zero is written 2^32 higher.
use Rattle.std.proofs.Common.{◌≡◌, ℤ, refl, w32}
use Rattle.std.specs.Prelude.{pos, negsuc}
use Rattle.std.specs.Int.{cast_unsigned}
use Rattle.spares_bytes.specs.SparesBytes.{bits32}

pub bits_are : (z : ℤ) → cast_unsigned w32 z ≡ bits32 z
unfolding bits32
bits_are (pos n) = refl
bits_are (negsuc n) = refl
