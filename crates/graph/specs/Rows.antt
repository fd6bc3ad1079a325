-- The adjacency rows in the work words: "Sets of vertices are 64-bit words, one bit a vertex".
use Rattle.std.specs.Prelude.{◌≡◌, Bool, List, ℕ, ◌+◌, ◌*◌, ◌<◌}
use Rattle.rows.specs.Rows.{row_at, Outside}
use Rattle.cliques.specs.declared.Place.{Place}
use Rattle.sheet.specs.Sheet.{k_of, n_of}
use Rattle.sheet.specs.Accepted.{Accepted}
use Rattle.rule_strikes.specs.Rows.{RowsFit}

-- the place is that of an accepted sheet, and its rows lie in `len` words
pub record RowsAsked (s : List ℕ) (place : Place) (len : ℕ) : Type 0 where
  pub accepted : Accepted s
  pub freqs : place.n ≡ n_of s
  pub links : place.k ≡ k_of s
  pub fit : RowsFit place.w place.graph place.n len

-- "Two vertices are adjacent when ..": row u holds the neighbours of u, and nothing but the rows has changed
pub record Built (adj : ℕ → ℕ → Bool) (w graph n : ℕ) (p p' : List ℕ) : Type 0 where
  pub rows : (u : ℕ) → u < n → row_at p' w graph u ≡ adj u
  pub rest : Outside graph (graph + n * w) p p'
