-- Failed vertices: rounds of trials.
use Rattle.std.specs.Prelude.{Bool, true, false, not, ◌&&◌, ◌||◌, ℕ, zero, suc, eqb, ltb}
use Rattle.sets.specs.Sets.{Set, ◌∩◌, ◌∖◌, just}
use Rattle.cliques.specs.Graph.{Graph, two, lower, higher, is_open}
use Rattle.filters.specs.Promise.{Filter}
use Rattle.filters.specs.Unit.{unit}

-- whether the round has struck a vertex, and what is live
abbrev pub State : Type 0
State = Bool × Set

module _ (G : Graph) where
  open G use {n, k, cls, adj}

  -- "makes the vertex alone in its class"
  unfoldable pub alone : ℕ → Set → Set
  alone a L = L ∩ (λ u. not (eqb (cls u) (cls a)) || eqb u a)

  -- "A trial makes the vertex alone in its class and runs unit steps on a copy": it is refuted when a class is empty
  unfoldable pub refuted : ℕ → ℕ → Set → Bool
  refuted d a L = not (is_open G d (unit G d (alone a L)))

  -- "if refuted, the vertex is struck and unit steps run"; else nothing of the trial is kept
  unfoldable pub trial : ℕ → ℕ → State → State
  trial d a x = elim (refuted d a x.1) [ true ↦ (true, unit G d (x.1 ∖ just a)) | false ↦ x ]

  -- "then, if two are still live, the higher"
  unfoldable pub try_higher : ℕ → ℕ → State → State
  try_higher d c x = elim (two G c x.1) [ true ↦ trial d (higher G c x.1) x | false ↦ x ]

  -- "each remaining class with two live vertices at that moment has the lower tried"
  unfoldable pub try_class : ℕ → ℕ → State → State
  try_class d c x = elim (two G c x.1) [ true ↦ try_higher d c (trial d (lower G c x.1) x) | false ↦ x ]

  -- "rounds: in rising order": the remaining classes below m
  unfoldable pub round : ℕ → ℕ → State → State
  round zero d x = x
  round (suc m) d x = elim (ltb m d) [ true ↦ round m d x | false ↦ try_class d m (round m d x) ]

  -- "Rounds end when one strikes nothing or a class is empty"; each other round strikes a vertex, so that n + 1 rounds
  -- are enough
  unfoldable pub rounds : ℕ → ℕ → Set → Set
  rounds zero d L = L
  rounds (suc f) d L = elim ((round k d (false, L)).0 && is_open G d (round k d (false, L)).1)
      [ true ↦ rounds f d (round k d (false, L)).1 | false ↦ (round k d (false, L)).1 ]

  -- unit steps, "Then rounds", unless the unit steps leave a class empty
  unfoldable pub failed : Filter
  failed d L = elim (is_open G d (unit G d L)) [ true ↦ rounds (suc n) d (unit G d L) | false ↦ unit G d L ]
