-- What the call that writes the heaviest job gives, for every k, m and buffer.
use Rattle.std.specs.Prelude.{Bool, true, false, ◌&&◌, List, ℕ, ◌*◌, ◌≤◌, ◌<◌, ltb, leb, length}
use Rattle.zeros.specs.Zeros.{zeros}
use Rattle.output.specs.Output.{padded}
use Rattle.heaviest_sheet.specs.Written.{sheet}

-- not "k or m is 0, k above 64, k × m above 512"
unfoldable pub sizes_ok : ℕ → ℕ → Bool
sizes_ok k m = (ltb 0 k && ltb 0 m) && (leb k 64 && leb (k * m) 512)

-- the same as facts
pub record SizesFit (k m : ℕ) : Type 0 where
  pub k_some : 0 < k
  pub m_some : 0 < m
  pub k_few : k ≤ 64
  pub few : k * m ≤ 512

-- nor "the buffer is under 65,536 bytes"
unfoldable pub in_range : ℕ → ℕ → ℕ → Bool
in_range k m room = sizes_ok k m && leb 65536 room

-- 0 or the cause, the length, and every byte of the buffer
pub record HeaviestOutcome : Type 0 where
  pub answer : ℕ
  pub length : ℕ
  pub buffer : List ℕ

-- the sheet "into a lent buffer, zeros after it, and return its length"; or 18, "the buffer zeroed"
unfoldable pub heaviest_of : ℕ → ℕ → ℕ → HeaviestOutcome
heaviest_of k m room = elim (in_range k m room) [
  | true ↦ record { answer = 0; length = length (sheet k m); buffer = padded (sheet k m) room }
  | false ↦ record { answer = 18; length = 0; buffer = zeros room }
]
