-- Where the rows lie in the work words.
use Rattle.std.specs.Prelude.{◌≡◌, List, ℕ, ◌+◌, ◌*◌, ◌/◌, ◌^◌, ◌≤◌, ◌<◌}
use Rattle.sheet_rows.specs.Form.{form_by, form_of}
use Rattle.cliques.specs.Words.{four_rows}
use Rattle.cliques.specs.declared.Place.{Place}

-- the words that planning a sheet needs, by its form, "all zero after every call"
abbrev pub work_words : List ℕ → ℕ
work_words s = (form_of s).words

-- n vertices, k links and `len` words, as some form has them
pub record WithinForm (n k len : ℕ) : Type 0 where
  pub number : ℕ
  pub some : 0 < n
  pub freqs : n ≤ (form_by number).freqs
  pub links : k ≤ (form_by number).links
  pub words : (form_by number).words ≤ len

-- a row of w words for each of the depths and three more for the filters, then the k masks of the classes, those of the
-- layers, and the n rows of the graph to the end of `len` words; in front there is room for the builder of the greedy
-- classes
pub record LaidOut (place : Place) (layers len : ℕ) : Type 0 where
  pub width : place.w ≡ (place.n + 63) / 64
  pub wide : place.n ≤ 64 * place.w
  pub small : 64 * place.w < 2 ^ 64
  pub deep : place.k * place.w + four_rows place ≤ place.masks
  pub after_masks : place.masks + place.k * place.w ≡ layers
  pub after_layers : layers + place.k * place.w ≡ place.graph
  pub after_graph : place.graph + place.n * place.w ≡ len
  pub front : place.n + place.n + place.w ≤ place.masks
