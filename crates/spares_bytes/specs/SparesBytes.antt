-- The call for spares with numbers and byte slices: cells and table as bytes, four a number, little-endian.
use Rattle.std.specs.Prelude.{◌≡◌, List, ℕ, suc, ◌-◌, ◌/◌, ◌^◌, ℤ, pos, negsuc}
use Rattle.sets.specs.Below.{tabulate}
use Rattle.rules.specs.Job.{Job}
use Rattle.spares.specs.Spares.{answer_for, place_left}
use Rattle.byte_calls.specs.ByteCalls.{cell_bytes}

-- a signed number as 32 bits: one below zero is written 2^32 higher
unfoldable pub bits32 : ℤ → ℕ
bits32 (pos n) = n
bits32 (negsuc n) = 2 ^ 32 - suc n

-- a table of `room` places, each as its bits
unfoldable pub table_bits : Job → List ℕ → ℕ → List ℕ
table_bits job cells room = tabulate room (λ i. bits32 (place_left job cells room i))

-- the number r and the bytes that are left are those of a call with `room` bytes for its table
pub record SparesHanded (job : Job) (cells : List ℕ) (room r : ℕ) (left : List ℕ) : Type 0 where
  pub number : r ≡ answer_for job cells (room / 4)
  pub bytes : left ≡ cell_bytes (table_bits job cells (room / 4)) room
