-- What a filter on the words of a node promises.
use Rattle.std.specs.Prelude.{◌≡◌, Bool, true, List, ℕ}
use Rattle.rows.specs.Rows.{Outside}
use Rattle.cliques.specs.Graph.{Graph, is_open}
use Rattle.cliques.specs.Words.{own_row, Node}
use Rattle.cliques.specs.declared.Place.{Place}
use Rattle.filters.specs.Promise.{Filter}

-- the part p of a node at depth d was filtered by F, which left p'. Only the first s words were written. For every
-- graph that the part holds, r says whether F leaves no remaining class empty; and where that is so, the own row is
-- what F leaves
pub record Filtered (F : Graph → Filter) (s d : ℕ) (place : Place) (p p' : List ℕ) (r : Bool) : Type 0 where
  pub rest : Outside 0 s p p'
  pub opens : (G : Graph) → Node G d place p → r ≡ is_open G d (F G d (own_row place p))
  pub says : (G : Graph) → Node G d place p → r ≡ true → own_row place p' ≡ F G d (own_row place p)
