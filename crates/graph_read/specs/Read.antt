-- What a reader hands back of a text, by the place where the rest of it begins.
use Rattle.std.specs.Prelude.{◌≡◌, Bool, true, Option, Some, None, List, ℕ, ◌+◌, ◌*◌, ◌≤◌, ◌<◌, min, length, take, drop}
use Rattle.dimacs.specs.Reading.{Number, no_number, number, digits_from}
use Rattle.dimacs.specs.Reading.{vertices_of, count_fits, CountList, no_counts, counts}
use Rattle.graph_read.specs.declared.Digits.{Digits}

-- a number as the code keeps it: numbers from 10 ^ 19 on are all alike, since no text has so many lines
abbrev pub most_value : ℕ
most_value = 10000000000000000000

unfoldable pub capped : ℕ → ℕ
capped v = min v most_value

-- r is the value with a digit more
pub record Pushed (value digit r : ℕ) : Type 0 where
  pub small : r ≤ most_value
  pub more : (v : ℕ) → value ≡ capped v → r ≡ capped (10 * v + digit)

-- the digits from `at` on, after digits of value `first`, have the value v with them, and end where the rest begins
pub record DigitsRead (text : List ℕ) (at first : ℕ) (r : Digits) : Type 0 where
  pub v : ℕ
  pub read : digits_from first (drop at text) ≡ number v (drop r.next text)
  pub value : r.value ≡ capped v
  pub within : r.next ≤ length text

-- a number that was read
abbrev pub got : ℕ → ℕ → Option Digits
got value next = Some (record { value = value; next = next })

-- r is the number v, with the rest s of the text after it
pub record Found (text : List ℕ) (v : ℕ) (s : List ℕ) (r : Option Digits) : Type 0 where
  pub next : ℕ
  pub is : r ≡ got (capped v) next
  pub within : next ≤ length text
  pub rest : s ≡ drop next text

-- r tells what a reader found in a text
abbrev pub Told : List ℕ → Number → Option Digits → Type 0
Told text no_number r = r ≡ None
Told text (number v s) r = Found text v s r

-- r says whether a count may follow counts cs, of which there are k and which sum to `total`, where the code has
-- `count` for it
pub record Fits (k total count : ℕ) (r : Bool) : Type 0 where
  pub answer : (cs : List ℕ) (c : ℕ) → k ≡ length cs → total ≡ vertices_of cs → count ≡ capped c → r ≡ count_fits cs c
  pub small : r ≡ true → (k < 64) × (total + count ≤ 512)

-- r tells the counts that were read, which are the first in `out`
abbrev pub CountsTold : CountList → List ℕ → Option ℕ → Type 0
CountsTold no_counts out r = r ≡ None
CountsTold (counts cs) out r = (r ≡ Some (length cs)) × (take (length cs) out ≡ cs) × (length cs ≤ length out)
