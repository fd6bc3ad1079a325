-- What the export call answers, in the paper's numbers.
use Rattle.std.specs.Prelude.{◌≡◌, Result, Ok, Err, List, ℕ, ◌≤◌, length}
use Rattle.std.specs.Result.{result_unwrap_or}
use Rattle.sheet.specs.Refusal.{cause_number}
use Rattle.zeros.specs.Zeros.{zeros}
use Rattle.output.specs.Output.{Wrote}
use Rattle.dimacs.specs.Export.{ExportOutcome}
use Rattle.graph_export.specs.declared.ExportRefusal.{ExportRefusal}
use Rattle.graph_export.specs.declared.ExportRefusal.TheVariants.{Sheet, Short}
use Rattle.graph_export.specs.declared.Lengths.{Lengths}

-- 0 where both texts are written, the sheet's cause, or 15 for "a lent output too short"
abbrev pub export_number : Result Lengths ExportRefusal → ℕ
export_number (Ok lengths) = 0
export_number (Err (Sheet cause)) = cause_number cause
export_number (Err Short) = 15

-- both lengths, which a refusal does not have
abbrev pub no_lengths : Lengths
no_lengths = record { graph = 0; counts = 0 }

abbrev pub lengths_of : Result Lengths ExportRefusal → Lengths
lengths_of r = result_unwrap_or r no_lengths

-- no graph text and no count text is longer
abbrev pub most_graph : ℕ
most_graph = 30000000

abbrev pub most_counts : ℕ
most_counts = 1408

-- both texts of a sheet were put, as far as they fit
pub record BothPut (graphText countsText g g' c c' : List ℕ) (r : Lengths) : Type 0 where
  pub graph : Wrote graphText g 0 g' r.graph
  pub counts : Wrote countsText c 0 c' r.counts
  pub graph_few : r.graph ≤ most_graph
  pub counts_few : r.counts ≤ most_counts

-- the texts were put whole, or else the outputs, which were g and c, are zero
pub record ExportFinished (lengths : Lengths) (g g' c c' : List ℕ) (r : Result Lengths ExportRefusal) : Type 0 where
  pub whole : lengths.graph ≤ length g → lengths.counts ≤ length c → (r ≡ Ok lengths) × (g' ≡ g) × (c' ≡ c)
  pub short : ((lengths.graph ≤ length g) × (lengths.counts ≤ length c) → ⊥)
      → (r ≡ Err Short) × (g' ≡ zeros (length g)) × (c' ≡ zeros (length c))

-- the answer r and the bytes that are left in both outputs are those of an outcome
pub record ExportGives (o : ExportOutcome) (r : Result Lengths ExportRefusal) (g c : List ℕ) : Type 0 where
  pub answer : export_number r ≡ o.answer
  pub graph_length_is : (lengths_of r).graph ≡ o.graph_length
  pub counts_length_is : (lengths_of r).counts ≡ o.counts_length
  pub graph : g ≡ o.graph
  pub counts : c ≡ o.counts
  pub graph_few : (lengths_of r).graph ≤ most_graph
  pub counts_few : (lengths_of r).counts ≤ most_counts
