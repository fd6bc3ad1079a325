-- What the theorems say of export and import.
use Rattle.std.specs.Prelude.{◌≡◌, Bool, List, ◌⊎◌, ℕ, ◌≤◌, ◌<◌, length, take}
use Rattle.sheet_rows.specs.Form.{hall_links, hall_freqs, form_by, form_of}
use Rattle.sheet.specs.Sheet.{k_of, n_of}
use Rattle.sheet.specs.Refusal.{refusal}
use Rattle.rules.specs.Job.{job_of}
use Rattle.graph.specs.Graph.{layer, edge}
use Rattle.setting.specs.Setting.{Setting}
use Rattle.work_words.specs.Layout.{work_words}
use Rattle.planner.specs.Outcome.{outcome}
use Rattle.demands.specs.SameGraph.{SameGraph, SameVerdict}
use Rattle.dimacs.specs.Export.{graph_text_of, counts_text_of, ExportOutcome, exported}
use Rattle.dimacs.specs.Reading.{vertices_of, layer_by, texts, texts_of}
use Rattle.dimacs.specs.Import.{text_graph, import_cause, imported_sheet, ImportOutcome, imported}

-- a sheet has the graph of counts and an adjacency
pub record HasGraph (s cs : List ℕ) (adj : ℕ → ℕ → Bool) : Type 0 where
  pub vertices : n_of s ≡ vertices_of cs
  pub links : k_of s ≡ length cs
  pub layers : layer (job_of s) ≡ layer_by cs (length cs)
  pub edges : edge (job_of s) ≡ adj

-- an import that succeeds: "Import writes form 1", the reader accepts the sheet, and its graph is that of the texts
pub record Imports (text counts : List ℕ) : Type 0 where
  pub form : form_of (imported_sheet text counts) ≡ form_by 1
  pub accepted : refusal (imported_sheet text counts) ≡ 0
  pub graph : (cs : List ℕ) (E : ℕ → Bool) → texts_of text counts ≡ texts cs E
      → HasGraph (imported_sheet text counts) cs (text_graph cs E)

-- the sheet that the texts of a sheet are imported as
abbrev pub returned : List ℕ → List ℕ
returned s = imported_sheet (graph_text_of s) (counts_text_of s)

-- "exporting and importing keeps verdict and node count of every accepted run in choices 0 and 1"; so it does of every
-- other run in as many words as the sheet's form needs, since vertices keep their numbers
pub record RoundTrip (s : List ℕ) : Type 0 where
  pub same : SameGraph (job_of (returned s)) (job_of s)
  pub runs : (x : Setting) (m w : ℕ) → work_words s ≤ w
      → SameVerdict (outcome (job_of (returned s)) x m w) (outcome (job_of s) x m w)

-- what a call wrote: as many bytes of an output as the length says
abbrev pub graph_sent : ExportOutcome → List ℕ
graph_sent o = take o.graph_length o.graph

abbrev pub counts_sent : ExportOutcome → List ℕ
counts_sent o = take o.counts_length o.counts

abbrev pub sheet_made : ImportOutcome → List ℕ
sheet_made o = take o.length o.sheet

-- what is shown of the two calls. "Where both succeed": export writes these two texts for every accepted sheet, where
-- its outputs are long enough, and import refuses them for 13 beyond the sizes of form 1, else for 15 alone
pub record DimacsLaws : Type 0 where
  pub imports : (text counts : List ℕ) (room : ℕ) → import_cause text counts room ≡ 0 → Imports text counts
  pub trips : (s : List ℕ) (room : ℕ) → refusal s ≡ 0 → import_cause (graph_text_of s) (counts_text_of s) room ≡ 0
      → RoundTrip s
  pub beyond : (s : List ℕ) (room : ℕ) → refusal s ≡ 0 → (hall_links < k_of s) ⊎ (hall_freqs < n_of s)
      → import_cause (graph_text_of s) (counts_text_of s) room ≡ 13
  pub refuses : (s : List ℕ) (room : ℕ) → refusal s ≡ 0 → k_of s ≤ hall_links → n_of s ≤ hall_freqs
      → (import_cause (graph_text_of s) (counts_text_of s) room ≡ 0 → ⊥)
      → import_cause (graph_text_of s) (counts_text_of s) room ≡ 15
  -- the same of what the calls leave in their outputs: an export o that succeeds, and an import of what it wrote
  pub calls : (s : List ℕ) (g c : ℕ) (o : ExportOutcome) → o ≡ exported s g c → o.answer ≡ 0
      → (room : ℕ) (i : ImportOutcome) → i ≡ imported (graph_sent o) (counts_sent o) room → i.answer ≡ 0
      → (x : Setting) (m w : ℕ) → work_words s ≤ w
      → SameVerdict (outcome (job_of (sheet_made i)) x m w) (outcome (job_of s) x m w)
