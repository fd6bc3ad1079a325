-- "Vertex v is the v-th frequency of the sheet, from 0; a link's vertices form its layer". A vertex's frequency is
-- `freq` at its number; its link is looked up in the sheet.
use Rattle.std.specs.Prelude.{ℕ, zero, suc, ◌+◌, ◌≤◌, ◌<◌, List, cond, leb}
use Rattle.sheet_rows.specs.Rows.{link_first, link_count}

-- v is a vertex of link l
pub record InLink (s : List ℕ) (l v : ℕ) : Type 0 where
  pub low : link_first s l ≤ v
  pub high : v < link_first s l + link_count s l

-- the link of a vertex: the last of m links that starts at or below it
unfoldable pub layer_of : List ℕ → ℕ → ℕ → ℕ
layer_of s zero v = 0
layer_of s (suc m) v = cond (leb (link_first s m) v) m (layer_of s m v)
