-- The desk's calls: what each returns as one number, and what it leaves in the slices lent.
use Rattle.std.specs.Prelude.{◌≡◌, List, ℕ, ◌+◌, ◌*◌, ◌^◌}
use Rattle.dimacs.specs.Export.{ExportOutcome}
use Rattle.dimacs.specs.Import.{ImportOutcome}
use Rattle.heaviest_sheet.specs.Call.{HeaviestOutcome}

-- the length of the graph text, plus 2^32 times that of the count text, plus 2^48 times the cause, which is 0 where
-- both are written
unfoldable pub export_word : ExportOutcome → ℕ
export_word o = o.graph_length + 2 ^ 32 * o.counts_length + 2 ^ 48 * o.answer

-- the number r and the bytes that are left in both outputs are those of an export
pub record ExportHanded (o : ExportOutcome) (r : ℕ) (g c : List ℕ) : Type 0 where
  pub number : r ≡ export_word o
  pub graph : g ≡ o.graph
  pub counts : c ≡ o.counts

-- of a call that writes a sheet: its length, plus 2^32 times the cause, which is 0 where it is written
abbrev pub sheet_word : ℕ → ℕ → ℕ
sheet_word length cause = length + 2 ^ 32 * cause

-- the number r and the bytes that are left in the output are those of an import
pub record ImportHanded (o : ImportOutcome) (r : ℕ) (s : List ℕ) : Type 0 where
  pub number : r ≡ sheet_word o.length o.answer
  pub sheet : s ≡ o.sheet

-- the same of a heaviest job
pub record HeaviestHanded (o : HeaviestOutcome) (r : ℕ) (s : List ℕ) : Type 0 where
  pub number : r ≡ sheet_word o.length o.answer
  pub sheet : s ≡ o.buffer
