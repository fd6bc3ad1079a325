-- Some of a filter's strikes, made in words: they may come in any order, as long as the filter makes them too.
use Rattle.std.specs.Prelude.{◌≡◌, Bool, true, false, Option, Some, None, List, ℕ, ◌+◌, ◌*◌, ◌≤◌, ◌<◌}
use Rattle.sets.specs.Below.{count}
use Rattle.sets.specs.Sets.{Set, ◌⊆◌, ◌∩◌, ◌∪◌}
use Rattle.rows.specs.Rows.{set_at, row_at, Outside}
use Rattle.cliques.specs.Graph.{Graph, At, some, lone, two, is_open}
use Rattle.cliques.specs.Words.{own_row, Node}
use Rattle.cliques.specs.declared.Place.{Place}
use Rattle.filters.specs.Promise.{Filter}
use Rattle.filters.specs.Unit.{strike, unit}
use Rattle.filters.specs.Failed.{refuted}

-- L is on the way from L₀ to what F leaves of it: where F leaves no remaining class empty, L has all that F leaves
pub record OnTheWay (G : Graph) (F : Filter) (d : ℕ) (L₀ L : Set) : Type 0 where
  pub strikes : L ⊆ L₀
  pub keeps : is_open G d (F d L₀) ≡ true → F d L₀ ⊆ L

-- strikes of F were made at a node, from the part p to p'. None: F leaves a remaining class empty. Some b: the own row
-- is on the way, and b says whether it has lost a vertex; where it has not, Q holds of it
pub record Stepped (F : Graph → Filter) (Q : Graph → Set → Type 0) (s d : ℕ) (place : Place) (p p' : List ℕ)
    (r : Option Bool) : Type 0 where
  pub rest : Outside 0 s p p'
  pub shut : r ≡ None → (G : Graph) → Node G d place p → is_open G d (F G d (own_row place p)) ≡ false
  pub way : (b : Bool) → r ≡ Some b → (G : Graph) → Node G d place p
      → OnTheWay G (F G) d (own_row place p) (own_row place p')
  pub fewer : r ≡ Some true → count (64 * place.w) (own_row place p') < count (64 * place.w) (own_row place p)
  pub same : r ≡ Some false → own_row place p' ≡ own_row place p
  pub settled : r ≡ Some false → (G : Graph) → Node G d place p → Q G (own_row place p)

-- of the own row was left what is beside v or in row m, and r says whether a vertex was struck
pub record StruckOthers (w m graph v : ℕ) (p p' : List ℕ) (r : Bool) : Type 0 where
  pub rest : Outside 0 (w + w) p p'
  pub own : set_at p' w 0 ≡ set_at p w 0 ∩ (row_at p w graph v ∪ set_at p w m)
  pub fewer : r ≡ true → count (64 * w) (set_at p' w 0) < count (64 * w) (set_at p w 0)
  pub same : r ≡ false → set_at p' w 0 ≡ set_at p w 0

-- class c has a live vertex, and where it has but one, that strikes nothing
pub record Calm (G : Graph) (d c : ℕ) (L : Set) : Type 0 where
  pub live : some G c L ≡ true
  pub still : lone G c L ≡ true → L ⊆ strike G d c L

-- no remaining class is empty, and unit steps strike nothing
pub record Rests (G : Graph) (d : ℕ) (L : Set) : Type 0 where
  pub opens : is_open G d L ≡ true
  pub still : unit G d L ≡ L

-- in words: class c has two live vertices, and a is one of them
pub record OneOfTwo (w masks c a : ℕ) (p : List ℕ) : Type 0 where
  pub both : count (64 * w) (set_at p w 0 ∩ row_at p w masks c) ≡ 2
  pub live : (set_at p w 0 ∩ row_at p w masks c) a ≡ true

-- a trial of vertex a is not refuted; of class c, where it has two live vertices, neither is; nor is one of any
-- remaining class
abbrev pub Stands : Graph → ℕ → ℕ → Set → Type 0
Stands G d a L = refuted G d a L ≡ false

abbrev pub BothStand : Graph → ℕ → ℕ → Set → Type 0
BothStand G d c L = two G c L ≡ true → (a : ℕ) → At G c a L → Stands G d a L

abbrev pub AllStand : Graph → ℕ → Set → Type 0
AllStand G d L = (c : ℕ) → d ≤ c → c < G.k → BothStand G d c L
