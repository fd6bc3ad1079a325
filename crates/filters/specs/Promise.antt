-- A filter, and all that the search relies on of it.
use Rattle.std.specs.Prelude.{◌≡◌, true, false, ℕ}
use Rattle.sets.specs.Sets.{Set, ◌⊆◌}
use Rattle.cliques.specs.Graph.{Graph, is_open, Clique, layered, none_empty, Layers}

-- a filter takes the depth and the live set, and gives the filtered live set
abbrev pub Filter : Type 0
Filter = ℕ → Set → Set

-- F' leaves no more of a smaller set than F of a larger, unless F' leaves a remaining class empty
abbrev pub Refines : Graph → Filter → Filter → Type 0
Refines G F' F = (d : ℕ) (L M : Set) → L ⊆ M → is_open G d (F' d L) ≡ true → F' d L ⊆ F d M

-- it strikes only, keeps every clique of the remaining classes, and leaves no more of less
pub record Promise (G : Graph) (F : Filter) : Type 0 where
  pub strikes : (d : ℕ) (L : Set) → F d L ⊆ L
  pub keeps : (d : ℕ) (L : Set) (c : ℕ → ℕ) → Clique G d L c → Clique G d (F d L) c
  pub refines : Refines G F F

-- the same of a pre-filter, which takes the graph, the layers and the live set: it reads the layers and not the
-- classes, strikes only, keeps every k-clique, and leaves no more of less; where it leaves a layer or a class empty,
-- there is no k-clique
pub record PrePromise (F : Graph → (ℕ → ℕ) → Set → Set) : Type 0 where
  pub by_layers_is : (G : Graph) (lay : ℕ → ℕ) (L : Set) → F (layered G lay) lay L ≡ F G lay L
  pub strikes : (G : Graph) (lay : ℕ → ℕ) (L : Set) → F G lay L ⊆ L
  pub keeps : (G : Graph) (lay : ℕ → ℕ) (L : Set) → Layers G lay L → (c : ℕ → ℕ) → Clique G 0 L c
      → Clique G 0 (F G lay L) c
  pub refines : (G : Graph) (lay : ℕ → ℕ) (L M : Set) → L ⊆ M → F G lay L ⊆ F G lay M
  pub empty : (G : Graph) (lay : ℕ → ℕ) (L : Set) → Layers G lay L → none_empty G lay (F G lay L) ≡ false
      → (c : ℕ → ℕ) → Clique G 0 L c → ⊥
