-- The pre-filter, by the layers.
use Rattle.std.specs.Prelude.{◌||◌, ℕ, zero, suc, eqb}
use Rattle.sets.specs.Sets.{Set, ◌∩◌}
use Rattle.cliques.specs.Graph.{Graph, layered}
use Rattle.filters.specs.Sweep.{near}

-- "for each layer in rising order, strike every vertex outside it with no live neighbour in it": the layers below m
unfoldable pub pre_to : Graph → (ℕ → ℕ) → ℕ → Set → Set
pre_to G lay zero L = L
pre_to G lay (suc m) L = pre_to G lay m L ∩ (λ u. eqb (lay u) m || near (layered G lay) (pre_to G lay m L) u m)

unfoldable pub pre_filter : Graph → (ℕ → ℕ) → Set → Set
pre_filter G lay = pre_to G lay G.k
