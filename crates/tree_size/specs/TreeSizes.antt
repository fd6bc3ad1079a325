-- What is shown of the size of trees.
use Rattle.std.specs.Prelude.{false, ℕ, ◌≤◌, eqb}
use Rattle.sets.specs.Below.{count}
use Rattle.sets.specs.Sets.{Set}
use Rattle.cliques.specs.Graph.{Graph}
use Rattle.search.specs.Tree.{nodes}
use Rattle.search.specs.Setting.{tree}
use Rattle.tree_size.specs.Size.{heaviest_nodes}

-- no tree over classes of at most m vertices is larger, whatever filters, layers and live set, in a run until the first
-- plan
pub record TreeSizes : Type 0 where
  pub most : (G : Graph) (m : ℕ) → ((c : ℕ) → count G.n (λ v. eqb (G.cls v) c) ≤ m)
      → (f : ℕ) (lay : ℕ → ℕ) (L : Set) → nodes (tree false f G lay L) ≤ heaviest_nodes G.k m
