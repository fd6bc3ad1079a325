-- How the graph, the classes and the order of the vertices stand in words: what the functions of this crate promise.
use Rattle.std.specs.Prelude.{◌≡◌, Bool, cond, ◌&&◌, List, [], ◌∷◌, ◌++◌, ℕ, ◌+◌, ◌*◌, ◌^◌, ◌≤◌, ◌<◌, ltb, leb, eqb, length, get_or, take, drop}
use Rattle.sets.specs.Below.{all, count}
use Rattle.sets.specs.Sets.{Set, ◌∪◌, just, nothing}
use Rattle.rows.specs.Rows.{set_at, row_at, Outside}
use Rattle.cliques.specs.declared.Place.{Place}
use Rattle.partition.specs.Partition.{class_of, degree, add_degree, by_degree, free, join, fill, greedy, built}
use Rattle.partition.specs.Partition.{is_partition}

-- n rows of w words from `graph` on hold the adjacency: row u has the neighbours of u among n vertices, and nothing else
pub record Rows (adj : ℕ → ℕ → Bool) (w graph n : ℕ) (p : List ℕ) : Type 0 where
  pub edge : (u : ℕ) → u < n → (v : ℕ) → row_at p w graph u v ≡ (ltb v n && adj u v)

-- the vertices of class c, among n
unfoldable pub members : ℕ → List ℕ → ℕ → Set
members n cls c v = ltb v n && eqb (class_of cls v) c

-- the masks of k classes of n vertices, each a row of w words from `at` on
abbrev pub Masked : ℕ → ℕ → List ℕ → ℕ → ℕ → List ℕ → Type 0
Masked n k cls w at p = (c : ℕ) → c < k → row_at p w at c ≡ members n cls c

-- they were written, and nothing else was
pub record Masks (n k : ℕ) (cls : List ℕ) (w at : ℕ) (p p' : List ℕ) : Type 0 where
  pub mask : Masked n k cls w at p'
  pub rest : Outside at (at + k * w) p p'

-- vertex v was added to the mask of class c, if that is one of k
pub record Marked (c v k w at : ℕ) (p p' : List ℕ) : Type 0 where
  pub rows : (d : ℕ) → d < k → row_at p' w at d ≡ cond (eqb d c) (row_at p w at d ∪ just v) (row_at p w at d)
  pub rest : Outside at (at + k * w) p p'

-- r says whether v is adjacent to none of its class, for every graph that the rows hold, where the masks stand
pub record Alone (place : Place) (cls p : List ℕ) (v : ℕ) (r : Bool) : Type 0 where
  pub answer : (adj : ℕ → ℕ → Bool) → Rows adj place.w place.graph place.n p
      → Masked place.n place.k cls place.w place.masks p
      → r ≡ free place.n place.k adj (class_of cls v) cls v

-- r says so of all n vertices
pub record AllAlone (place : Place) (cls p : List ℕ) (r : Bool) : Type 0 where
  pub answer : (adj : ℕ → ℕ → Bool) → Rows adj place.w place.graph place.n p
      → Masked place.n place.k cls place.w place.masks p
      → r ≡ all place.n (λ v. free place.n place.k adj (class_of cls v) cls v)

-- r is the test of cause 12, for every graph that the rows hold; only the k masks were written
pub record Tested (place : Place) (cls p p' : List ℕ) (r : Bool) : Type 0 where
  pub answer : (adj : ℕ → ℕ → Bool) → Rows adj place.w place.graph place.n p
      → r ≡ is_partition place.n place.k adj cls
  pub rest : Outside place.masks (place.masks + place.k * place.w) p p'

-- the builder's words: n degrees, n places of the order, and from `own_class` on the row of the class that is filled
abbrev pub own_class : Place → ℕ
own_class place = place.n + place.n

abbrev pub builder_words : Place → ℕ
builder_words place = place.n + place.n + place.w

-- room for the builder in `len` words, before the graph's rows
pub record BuilderRoom (place : Place) (len : ℕ) : Type 0 where
  pub front : builder_words place ≤ place.graph
  pub rows : place.graph + place.n * place.w ≤ len
  pub wide : place.n ≤ 64 * place.w
  pub small : 64 * place.w < 2 ^ 64

-- the first n words are the degrees
pub record Degrees (adj : ℕ → ℕ → Bool) (n : ℕ) (p : List ℕ) : Type 0 where
  pub at : (k v : ℕ) → v < n → get_or p v 0 ≡ degree n k adj v

-- the m words from n on are the vertices by falling degree
pub record Ordered (adj : ℕ → ℕ → Bool) (n m : ℕ) (p : List ℕ) : Type 0 where
  pub list : (k : ℕ) → take m (drop n p) ≡ by_degree n k adj

-- the degrees were written
pub record DegreesCounted (place : Place) (p p' : List ℕ) : Type 0 where
  pub degrees : (adj : ℕ → ℕ → Bool) → Rows adj place.w place.graph place.n p → Degrees adj place.n p'
  pub rest : Outside 0 place.n p p'

-- vertex v was put behind the m vertices listed, if its degree is d; now r are listed
pub record VertexListed (n d v m : ℕ) (p p' : List ℕ) (r : ℕ) : Type 0 where
  pub list : take r (drop n p') ≡ cond (eqb (get_or p v 0) d) (take m (drop n p) ++ (v ∷ [])) (take m (drop n p))
  pub more : r ≡ cond (eqb (get_or p v 0) d) (m + 1) m
  pub rest : Outside n (n + n) p p'

-- the vertices of degree d were put behind the m vertices listed; now r are listed, at most as many as have degree d or
-- a higher one
pub record DegreeListed (n d m : ℕ) (p p' : List ℕ) (r : ℕ) : Type 0 where
  pub few : r ≤ count n (λ v. leb d (get_or p v 0))
  pub list : (k : ℕ) (adj : ℕ → ℕ → Bool) → Degrees adj n p
      → take r (drop n p') ≡ add_degree n k adj d (take m (drop n p))
  pub rest : Outside n (n + n) p p'

-- all r vertices were listed
pub record Sorted (n : ℕ) (p p' : List ℕ) (r : ℕ) : Type 0 where
  pub few : r ≤ n
  pub order : (adj : ℕ → ℕ → Bool) → Degrees adj n p → Ordered adj n r p'
  pub rest : Outside n (n + n) p p'

-- class c, whose members are the row behind the order, has taken v or left it
pub record Joined (place : Place) (c v : ℕ) (p p' cls cls' : List ℕ) : Type 0 where
  pub joined : (adj : ℕ → ℕ → Bool) → Rows adj place.w place.graph place.n p
      → set_at p place.w (own_class place) ≡ members place.n cls c → cls' ≡ join place.n place.k adj c v cls
  pub kept : set_at p place.w (own_class place) ≡ members place.n cls c
      → set_at p' place.w (own_class place) ≡ members place.n cls' c
  pub rest : Outside (own_class place) (builder_words place) p p'

-- class c, which had no member, is filled
pub record ClassFilled (place : Place) (m c : ℕ) (p p' cls cls' : List ℕ) : Type 0 where
  pub filled : (adj : ℕ → ℕ → Bool) → Rows adj place.w place.graph place.n p → Ordered adj place.n m p
      → members place.n cls c ≡ nothing → cls' ≡ fill place.n place.k adj c cls
  pub rest : Outside (own_class place) (builder_words place) p p'

-- k classes are filled
pub record ClassesFilled (place : Place) (m : ℕ) (p p' cls' : List ℕ) : Type 0 where
  pub filled : (adj : ℕ → ℕ → Bool) → Rows adj place.w place.graph place.n p → Ordered adj place.n m p
      → cls' ≡ greedy place.n place.k adj
  pub size : length cls' ≡ place.n
  pub rest : Outside (own_class place) (builder_words place) p p'

-- the class list was written into the first words
pub record Kept (cls p p' : List ℕ) : Type 0 where
  pub at : (v : ℕ) → v < length cls → get_or p' v 0 ≡ class_of cls v
  pub rest : Outside 0 (length cls) p p'

-- the classes of choice 1 stand where the layers stood
pub record ClassesBuilt (place : Place) (p p' cls cls' : List ℕ) : Type 0 where
  pub classes : (adj : ℕ → ℕ → Bool) → Rows adj place.w place.graph place.n p
      → cls' ≡ built place.n place.k adj cls
  pub rest : Outside 0 (builder_words place) p p'
