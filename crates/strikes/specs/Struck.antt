-- The strikes in the work words: the row of the vertices that are left, and the rows that are cut to it.
use Rattle.std.specs.Prelude.{◌≡◌, true, cond, List, ℕ, ◌≤◌}
use Rattle.sets.specs.Sets.{Set, ◌∩◌, nothing}
use Rattle.channels.specs.Channels.{channels_ok}
use Rattle.sheet.specs.Sheet.{n_of}
use Rattle.sheet.specs.Accepted.{Accepted}
use Rattle.rules.specs.Job.{Job, struck, unstruck}
use Rattle.cliques.specs.declared.Place.{Place}
use Rattle.rule_strikes.specs.Rows.{RowsFit}

-- the place is that of an accepted sheet, its rows lie in `len` words behind the root row, and the list may be lent
pub record StrikesAsked (s channels : List ℕ) (place : Place) (len : ℕ) : Type 0 where
  pub accepted : Accepted s
  pub list : channels_ok channels ≡ true
  pub freqs : place.n ≡ n_of s
  pub fit : RowsFit place.w place.graph place.n len
  pub after : place.w ≤ place.graph

-- of the row S of vertex u: "no neighbours" where u is struck, else those that are left
unfoldable pub left_of : Job → ℕ → Set → Set
left_of job u S = cond (struck job u) nothing (S ∩ unstruck job)
