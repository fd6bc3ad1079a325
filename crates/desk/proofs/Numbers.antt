-- The numbers of the desk's answers.
use Rattle.std.proofs.Common.{◌≡◌, refl, ◌∙◌, List, ℕ, ◌+◌, ◌*◌, ◌^◌, ◌≤◌, Result, Ok, Err, arith}
use Rattle.std.specs.Result.{result_unwrap_or}
use Rattle.sheet.proofs.Causes.{cause_most}
use Rattle.dimacs.specs.Export.{ExportOutcome}
use Rattle.dimacs.specs.Import.{ImportOutcome}
use Rattle.graph_export.specs.Gives.{export_number, lengths_of, ExportGives}
use Rattle.graph_export.specs.declared.ExportRefusal.{ExportRefusal}
use Rattle.graph_export.specs.declared.ExportRefusal.TheVariants.{Sheet, Short}
use Rattle.graph_export.specs.declared.Lengths.{Lengths}
use Rattle.graph_import.specs.Gives.{import_number, ImportGives}
use Rattle.graph_import.specs.declared.ImportRefusal.{ImportRefusal}
use Rattle.heaviest_sheet.specs.Call.{HeaviestOutcome}
use Rattle.heaviest.specs.Gives.{heaviest_number, HeaviestGives}
use Rattle.heaviest.specs.declared.HeaviestRefusal.{HeaviestRefusal}
use Rattle.desk.specs.Desk.{export_word, ExportHanded, sheet_word, ImportHanded, HeaviestHanded}

pub export_few : (a : Result Lengths ExportRefusal) → export_number a ≤ 16
export_few (Ok lengths) = omega arith
export_few (Err (Sheet c)) = omega (arith, cause_most c)
export_few (Err Short) = omega arith

pub export_handed : {o : ExportOutcome} {a : Result Lengths ExportRefusal} {r : ℕ} {g c : List ℕ} → ExportGives o a g c
    → r ≡ (lengths_of a).graph + 2 ^ 32 * (lengths_of a).counts + 2 ^ 48 * export_number a → ExportHanded o r g c
unfolding export_word
export_handed G q = record {
  number = q ∙ rw (G.graph_length_is, G.counts_length_is, G.answer) refl;
  graph = G.graph;
  counts = G.counts;
}

-- a call that writes a sheet: what it gives and what is handed back
pub import_handed : {o : ImportOutcome} {a : Result ℕ ImportRefusal} {l n r : ℕ} {s : List ℕ} → ImportGives o a s
    → l ≡ result_unwrap_or a 0 → n ≡ import_number a → r ≡ sheet_word l n → ImportHanded o r s
import_handed G d e q = record { number = q ∙ rw (d, e, G.length, G.answer) refl; sheet = G.sheet }

pub heaviest_handed : {o : HeaviestOutcome} {a : Result ℕ HeaviestRefusal} {l n r : ℕ} {s : List ℕ} → HeaviestGives o a s
    → l ≡ result_unwrap_or a 0 → n ≡ heaviest_number a → r ≡ sheet_word l n → HeaviestHanded o r s
heaviest_handed G d e q = record { number = q ∙ rw (d, e, G.length, G.answer) refl; sheet = G.bytes }
