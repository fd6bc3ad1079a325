-- The colour sweep.
use Rattle.std.specs.Prelude.{Bool, not, ◌&&◌, ◌||◌, ℕ, zero, suc, eqb, ltb}
use Rattle.sets.specs.Below.{all, any}
use Rattle.sets.specs.Sets.{Set, ◌∩◌}
use Rattle.cliques.specs.Graph.{Graph}
use Rattle.filters.specs.Promise.{Filter}

module _ (G : Graph) where
  open G use {n, k, cls, adj}

  -- u has a live neighbour in class e
  unfoldable pub near : Set → ℕ → ℕ → Bool
  near L u e = any n (λ v. L v && (eqb (cls v) e && adj u v))

  -- "strike every vertex that has no live neighbour in some earlier remaining class": u is not of class m, or has one
  -- in each
  unfoldable pub reached : ℕ → ℕ → Set → Set
  reached d m L u = not (eqb (cls u) m) || all m (λ e. ltb e d || near L u e)

  -- "for each remaining class .. in rising order": the classes below m are swept
  unfoldable pub sweep_to : ℕ → Filter
  sweep_to zero d L = L
  sweep_to (suc m) d L = sweep_to m d L ∩ reached d m (sweep_to m d L)

  unfoldable pub sweep : Filter
  sweep = sweep_to k
