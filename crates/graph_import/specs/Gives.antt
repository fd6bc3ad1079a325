-- What the import call answers, in the paper's numbers.
use Rattle.std.specs.Prelude.{◌≡◌, Result, Ok, Err, List, ℕ, ◌≤◌}
use Rattle.std.specs.Result.{result_unwrap_or}
use Rattle.dimacs.specs.Import.{ImportOutcome}
use Rattle.graph_read.specs.declared.TextsRefusal.{TextsRefusal}
use Rattle.graph_import.specs.declared.ImportRefusal.{ImportRefusal}
use Rattle.graph_import.specs.declared.ImportRefusal.TheVariants.{Malformed, Clashing, Short}

-- the refusal of texts that were not read
abbrev pub of_texts : TextsRefusal → ImportRefusal
of_texts TextsRefusal.Malformed = Malformed
of_texts TextsRefusal.Clashing = Clashing

-- 0 where the sheet is written, 13 "text malformed or outside form 1's" limits, 14 "edge inside a link or repeated
-- either way", 15 "more than 8,192 kind 3 pairs or a lent output too short"
abbrev pub import_number : Result ℕ ImportRefusal → ℕ
import_number (Ok length) = 0
import_number (Err Malformed) = 13
import_number (Err Clashing) = 14
import_number (Err Short) = 15

-- no sheet is longer
abbrev pub most_sheet : ℕ
most_sheet = 100000

-- the answer r, which a refusal gives no length, and the bytes that are left in the output are those of an outcome
pub record ImportGives (o : ImportOutcome) (r : Result ℕ ImportRefusal) (s : List ℕ) : Type 0 where
  pub answer : import_number r ≡ o.answer
  pub length : result_unwrap_or r 0 ≡ o.length
  pub sheet : s ≡ o.sheet
  pub few : result_unwrap_or r 0 ≤ most_sheet
