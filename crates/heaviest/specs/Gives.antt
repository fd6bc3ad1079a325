-- What the call answers, in the paper's numbers.
use Rattle.std.specs.Prelude.{◌≡◌, Result, Ok, Err, List, ℕ, ◌≤◌}
use Rattle.std.specs.Result.{result_unwrap_or}
use Rattle.heaviest_sheet.specs.Call.{HeaviestOutcome}
use Rattle.heaviest.specs.declared.HeaviestRefusal.{HeaviestRefusal}
use Rattle.heaviest.specs.declared.HeaviestRefusal.TheVariants.{OutOfRange}

-- 0 where the sheet is written, 18 "if k or m is 0, k above 64, k × m above 512, or the buffer is under 65,536 bytes"
abbrev pub heaviest_number : Result ℕ HeaviestRefusal → ℕ
heaviest_number (Ok length) = 0
heaviest_number (Err OutOfRange) = 18

-- the answer r, which a refusal gives no length, and the bytes that are left in the buffer are those of an outcome; no
-- sheet is longer than the least buffer
pub record HeaviestGives (o : HeaviestOutcome) (r : Result ℕ HeaviestRefusal) (buffer : List ℕ) : Type 0 where
  pub answer : heaviest_number r ≡ o.answer
  pub length : result_unwrap_or r 0 ≡ o.length
  pub bytes : buffer ≡ o.buffer
  pub few : result_unwrap_or r 0 ≤ 65536
