-- The export of a sheet: "DIMACS graph text: `p edge n m`, then `e u v` lines, vertices 1 to n. A second text holds the
-- number of frequencies of each link, one a line." It speaks of the sheet's graph alone.
use Rattle.std.specs.Prelude.{Bool, true, false, ◌&&◌, List, ◌++◌, ℕ, ◌+◌, ◌*◌, ◌/◌, ◌%◌, ltb, leb, eqb, length}
use Rattle.sets.specs.Below.{tabulate}
use Rattle.sheet_rows.specs.Rows.{link_count}
use Rattle.sheet.specs.Sheet.{k_of, n_of}
use Rattle.sheet.specs.Refusal.{refusal, passing, unless}
use Rattle.rules.specs.Job.{job_of}
use Rattle.graph.specs.Graph.{edge}
use Rattle.zeros.specs.Zeros.{zeros}
use Rattle.output.specs.Output.{padded}
use Rattle.lines.specs.Lines.{ascii, decimal, line}
use Rattle.dimacs.specs.Lists.{select, for_each}

-- of n vertices, the pair of u and v has the code u * n + v, so that codes rise as pairs do: the code of an edge, u < v
unfoldable pub is_edge : ℕ → (ℕ → ℕ → Bool) → ℕ → Bool
is_edge n adj z = ltb (z / n) (z % n) && adj (z / n) (z % n)

-- "Export writes u < v, rising"
unfoldable pub edge_codes : ℕ → (ℕ → ℕ → Bool) → List ℕ
edge_codes n adj = select (n * n) (is_edge n adj)

-- "`e u v` lines, vertices 1 to n"
unfoldable pub edge_text : ℕ → ℕ → List ℕ
edge_text n z = line (ascii "e " ++ decimal (z / n + 1)) (z % n + 1)

-- "`p edge n m`, then `e u v` lines"
unfoldable pub graph_text : ℕ → (ℕ → ℕ → Bool) → List ℕ
graph_text n adj =
    line (ascii "p edge " ++ decimal n) (length (edge_codes n adj)) ++ for_each (edge_text n) (edge_codes n adj)

-- "the number of frequencies of each link, one a line"
unfoldable pub count_text : ℕ → List ℕ
count_text c = decimal c ++ ascii "\n"

unfoldable pub counts_text : List ℕ → List ℕ
counts_text cs = for_each count_text cs

-- the two texts of a sheet
unfoldable pub counts_of : List ℕ → List ℕ
counts_of s = tabulate (k_of s) (link_count s)

abbrev pub graph_text_of : List ℕ → List ℕ
graph_text_of s = graph_text (n_of s) (edge (job_of s))

abbrev pub counts_text_of : List ℕ → List ℕ
counts_text_of s = counts_text (counts_of s)

-- the sheet's causes, and 15 "a lent output too short", for outputs of g and c bytes
unfoldable pub export_cause : List ℕ → ℕ → ℕ → ℕ
export_cause s g c =
    passing (eqb (refusal s) 0) (refusal s) λ _.
    unless (leb (length (graph_text_of s)) g && leb (length (counts_text_of s)) c) 15

-- what the call gives: 0 or the cause, both lengths, and every byte of both outputs
pub record ExportOutcome : Type 0 where
  pub answer : ℕ
  pub graph_length : ℕ
  pub counts_length : ℕ
  pub graph : List ℕ
  pub counts : List ℕ

-- "Each call puts zeros after what it writes and returns its length, export both lengths"; "Answers, every lent output
-- zeroed"
unfoldable pub exported : List ℕ → ℕ → ℕ → ExportOutcome
exported s g c = elim (eqb (export_cause s g c) 0) [
  | true ↦ record {
    answer = 0;
    graph_length = length (graph_text_of s);
    counts_length = length (counts_text_of s);
    graph = padded (graph_text_of s) g;
    counts = padded (counts_text_of s) c;
  }
  | false ↦ record { answer = export_cause s g c; graph_length = 0; counts_length = 0; graph = zeros g; counts = zeros c }
]
