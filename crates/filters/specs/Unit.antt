-- Unit steps.
use Rattle.std.specs.Prelude.{true, false, not, ◌&&◌, ◌||◌, ℕ, zero, suc, eqb, ltb, leb}
use Rattle.sets.specs.Below.{any, first}
use Rattle.sets.specs.Sets.{Set, ◌∩◌, ◌∪◌, nothing, just}
use Rattle.cliques.specs.Graph.{Graph, lone, lower, is_open}
use Rattle.filters.specs.Promise.{Filter}

module _ (G : Graph) where
  open G use {n, k, cls, adj}

  -- "strike all its non-neighbours in other remaining classes": u stays beside v, the one live vertex of class c
  unfoldable pub stays : ℕ → ℕ → ℕ → Set
  stays d c v u = adj v u || (eqb (cls u) c || ltb (cls u) d)

  unfoldable pub strike : ℕ → ℕ → Set → Set
  strike d c L = L ∩ stays d c (lower G c L)

  -- class c is a "remaining class with one live vertex not yet taken"; t holds the classes taken
  unfoldable pub due : ℕ → Set → Set → Set
  due d t L c = leb d c && (lone G c L && not (t c))

  -- "Repeat until none is left or a class is empty"; a step takes one more class, so that k steps are enough
  unfoldable pub steps : ℕ → ℕ → Set → Set → Set
  steps zero d t L = L
  steps (suc f) d t L = elim (is_open G d L) [
    | true ↦ elim (any k (due d t L)) [
      | true ↦ steps f d (t ∪ just (first k (due d t L))) (strike d (first k (due d t L)) L)
      | false ↦ L
    ]
    | false ↦ L
  ]

  unfoldable pub unit : Filter
  unit d L = steps k d nothing L
