-- The adjacency rows that export reads, and what it counts and writes of the graph that they hold.
use Rattle.std.specs.Prelude.{◌≡◌, Bool, List, ℕ, ◌+◌, ◌*◌, ◌≤◌, ◌<◌, length}
use Rattle.rows.specs.Rows.{row_at}
use Rattle.sheet_rows.specs.Form.{most_freqs}
use Rattle.output.specs.Output.{Wrote}
use Rattle.output.specs.Puts.{Puts}
use Rattle.output.specs.declared.Output.{Output}
use Rattle.dimacs.specs.Lists.{select, for_each}
use Rattle.dimacs.specs.Export.{is_edge, edge_text}

-- "Sets of vertices are 64-bit words": the words of a row, for form 3's 1,024 vertices
abbrev pub row_words : ℕ
row_words = 16

-- row u of the words p has the neighbours of u, for each of n vertices
pub record RowsHold (adj : ℕ → ℕ → Bool) (n : ℕ) (p : List ℕ) : Type 0 where
  pub rows : (u : ℕ) → u < n → row_at p row_words 0 u ≡ adj u

-- n rows lie in `len` words
pub record RowsIn (n len : ℕ) : Type 0 where
  pub some : 0 < n
  pub few : n ≤ most_freqs
  pub inside : n * row_words ≤ len

-- the edges before code z, and their lines
abbrev pub edge_codes_to : ℕ → (ℕ → ℕ → Bool) → ℕ → List ℕ
edge_codes_to n adj z = select z (is_edge n adj)

abbrev pub lines_to : ℕ → (ℕ → ℕ → Bool) → ℕ → List ℕ
lines_to n adj z = for_each (edge_text n) (edge_codes_to n adj z)

-- r is the number of edges from code a up to code b
pub record EdgesCounted (n a b : ℕ) (p : List ℕ) (r : ℕ) : Type 0 where
  pub answer : (adj : ℕ → ℕ → Bool) → RowsHold adj n p → length (edge_codes_to n adj a) + r ≡ length (edge_codes_to n adj b)

-- the lines of the edges from code a up to code b were put into o, which is o' now, behind those before a, with at most
-- `most` bytes
pub record LinesPut (n a b most : ℕ) (p : List ℕ) (o o' : Output) : Type 0 where
  pub few : o'.end ≤ o.end + most
  pub same : o'.bytes.ghost_name ≡ o.bytes.ghost_name
  pub wrote : (adj : ℕ → ℕ → Bool) → RowsHold adj n p → (q : Output)
      → Puts (lines_to n adj a) q o → Puts (lines_to n adj b) q o'

-- a text of the graph was put, of at most `most` bytes
pub record TextPut (text : (ℕ → ℕ → Bool) → List ℕ) (n most : ℕ) (p before after : List ℕ) (r : ℕ) : Type 0 where
  pub few : r ≤ most
  pub wrote : (adj : ℕ → ℕ → Bool) → RowsHold adj n p → Wrote (text adj) before 0 after r
