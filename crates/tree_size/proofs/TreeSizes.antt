-- How large trees are.
use mathlib.Core.Path.{◌≡◌}
use mathlib.Core.Bool.{false}
use Prim.Native.Nat.{ℕ}
use Rattle.sets.specs.Sets.{whole}
use Rattle.cliques.specs.Graph.{Graph, layered}
use Rattle.search.specs.Tree.{found}
use Rattle.search.specs.Setting.{tree}
use Rattle.tree_size.specs.Size.{full, heaviest_nodes}
use Rattle.tree_size.specs.TreeSizes.{TreeSizes}
use Rattle.tree_size.proofs.FullGraph.{FullGraph}
use Rattle.tree_size.proofs.AtMost.{at_most_nodes, tree_at_most}
use Rattle.tree_size.proofs.Takes.{takes_found}
use Rattle.tree_size.proofs.FullTree.{tree_takes}

pub tree_sizes : TreeSizes
unfolding heaviest_nodes
tree_sizes = record {
  most = λ G m few f lay L. at_most_nodes (full m G.k) (tree false f G lay L) (tree_at_most G m few f lay L);
}

-- that of a full graph has a plan and just that size, under filter 0 from all vertices
pub full_size : (G : Graph) (m z x : ℕ) (lay : ℕ → ℕ) → FullGraph G m z x → FullGraph (layered G lay) m z x
    → (plan : ℕ → ℕ) × (tree false 0 G lay (whole G.n) ≡ found plan (heaviest_nodes G.k m))
unfolding heaviest_nodes
full_size G m z x lay S T =
    takes_found (full m G.k) (tree false 0 G lay (whole G.n)) (tree_takes G m z x S lay T)
