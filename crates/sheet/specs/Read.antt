-- What the checker of a section relies on: the sections before it are there and right.
use Rattle.std.specs.Prelude.{ℕ, ◌*◌, ◌≤◌, ◌≡◌, List, true, length}
use Rattle.sheet_rows.specs.Rows.{HasLinks, freq_bytes}
use Rattle.sheet.specs.Sheet.{links_ok}

-- k link rows of the sheet, and the frequency rows that they count
pub record LinksRead (s fs : List ℕ) (k : ℕ) : Type 0 where
  pub n : ℕ
  pub has_link_rows : HasLinks s k
  pub has_freq_rows : freq_bytes * n ≤ length fs
  pub links : links_ok s k n ≡ true
