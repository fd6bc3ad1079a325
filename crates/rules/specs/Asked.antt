-- What the plan check asks of a sheet and cells, and what it says of them: the definitions at the sheet's own sections.
use Rattle.std.specs.Prelude.{ℕ, ◌≤◌, ◌≡◌, List, Bool, true, ℤ, length}
use Rattle.sets.specs.Below.{all}
use Rattle.sheet.specs.Sheet.{k_of, q_of, freq_part, rule_part, pair_part}
use Rattle.sheet.specs.Accepted.{Accepted}
use Rattle.rules.specs.Plans.{cells_of, has_freq, vertex_of, in_lists, spare_taken, pair_kept, link_kept}

module _ (s : List ℕ) where
  -- the frequency x is in the list of link l; its vertex
  abbrev pub in_list : ℕ → ℕ → Bool
  in_list = has_freq s (freq_part s)

  abbrev pub vertex_in : ℕ → ℕ → ℕ
  vertex_in = vertex_of s (freq_part s)

  -- cell l is in its link's list
  abbrev pub cell_listed : List ℕ → ℕ → Bool
  cell_listed cells = in_lists s (freq_part s) (cells_of cells)

  -- what the cells of links a and b have to spare, whether they are allowed, and whether that of link a is with those
  -- of all higher links
  abbrev pub cells_spare : List ℕ → ℕ → ℕ → ℤ
  cells_spare cells = spare_taken s (freq_part s) (rule_part s) (pair_part s) (q_of s) (cells_of cells)

  abbrev pub cells_keep : List ℕ → ℕ → ℕ → Bool
  cells_keep cells = pair_kept s (freq_part s) (rule_part s) (pair_part s) (q_of s) (cells_of cells)

  abbrev pub cell_keeps : List ℕ → ℕ → Bool
  cell_keeps cells = link_kept s (freq_part s) (rule_part s) (pair_part s) (k_of s) (q_of s) (cells_of cells)

-- cells for every link of an accepted sheet, each in its link's list
pub record Taken (s cells : List ℕ) : Type 0 where
  pub accepted : Accepted s
  pub enough : k_of s ≤ length cells
  pub listed : all (k_of s) (cell_listed s cells) ≡ true
