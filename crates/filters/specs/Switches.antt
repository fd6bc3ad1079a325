-- The filters of a filter number: "Filter number 0 to 7: 1 pre-filter, 2 colour sweep, 4 unit and failed vertices,
-- added up".
use Rattle.std.specs.Prelude.{◌≡◌, Bool, true, false, ℕ, ◌/◌, ◌%◌, eqb}
use Rattle.cliques.specs.Graph.{Graph}
use Rattle.filters.specs.Promise.{Filter}
use Rattle.filters.specs.Sweep.{sweep}
use Rattle.filters.specs.Failed.{failed}

-- filter number f has the filter 1, 2 or 4
abbrev pub switched : ℕ → ℕ → Bool
switched f bit = eqb (f / bit % 2) 1

-- the filter that strikes nothing, and a filter that is switched
unfoldable pub idle : Filter
idle d L = L

unfoldable pub on : Bool → Filter → Filter
on true F = F
on false F = idle

-- "the colour sweep, then the unit filter run as switched"
unfoldable pub at_node : ℕ → Graph → Filter
at_node f G d L = on (switched f 4) (failed G) d (on (switched f 2) (sweep G) d L)

-- f' has each filter that f has
pub record Adds (f' f : ℕ) : Type 0 where
  pub pre : switched f 1 ≡ true → switched f' 1 ≡ true
  pub swept : switched f 2 ≡ true → switched f' 2 ≡ true
  pub unit : switched f 4 ≡ true → switched f' 4 ≡ true
