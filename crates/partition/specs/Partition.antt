-- The working partition: "one byte a vertex, class 0 to k − 1". A class list gives the class of each of n vertices.
use Rattle.std.specs.Prelude.{Bool, false, not, cond, ◌&&◌, List, [], ◌∷◌, ◌++◌, ℕ, ◌+◌, ◌-◌, ◌<◌, ltb, eqb, length, get_or, set, replicate, ◌≡◌}
use Rattle.sets.specs.Below.{all, any, count, loop, tabulate}
use Rattle.partition.specs.Choice.{class_list}

abbrev pub class_of : List ℕ → ℕ → ℕ
class_of cls v = get_or cls v 0

-- "Choice 0: the layers"
unfoldable pub layers_of : ℕ → (ℕ → ℕ) → List ℕ
layers_of n lay = tabulate n lay

module _ (n k : ℕ) (adj : ℕ → ℕ → Bool) where
  -- "A vertex's degree is the number of ones in its row"
  unfoldable pub degree : ℕ → ℕ
  degree v = count n (adj v)

  -- "vertices by falling degree, ties by lower number": those of degree n − 1, then n − 2, .., each by number
  unfoldable pub add_degree : ℕ → List ℕ → List ℕ
  add_degree d l = loop n (λ v l. cond (eqb (degree v) d) (l ++ (v ∷ [])) l) l

  unfoldable pub by_degree : List ℕ
  by_degree = loop n (λ e. add_degree (n - (e + 1))) []

  -- v is "adjacent to none already in" class c
  unfoldable pub free : ℕ → List ℕ → ℕ → Bool
  free c cls v = not (any n (λ u. eqb (class_of cls u) c && adj v u))

  -- class c takes v if it is unplaced, which is written k, and adjacent to none already in it
  unfoldable pub join : ℕ → ℕ → List ℕ → List ℕ
  join c v cls = cond (eqb (class_of cls v) k && free c cls v) (set cls v c) cls

  -- "each taking in that order every unplaced vertex adjacent to none already in it"
  unfoldable pub fill : ℕ → List ℕ → List ℕ
  fill c cls = loop (length by_degree) (λ i. join c (get_or by_degree i 0)) cls

  -- "classes are filled one after another": k of them
  unfoldable pub greedy : List ℕ
  greedy = loop k fill (replicate n k)

  -- every vertex has a class below k
  unfoldable pub all_placed : List ℕ → Bool
  all_placed cls = all n (λ v. ltb (class_of cls v) k)

  -- "If more than k classes arise, the layers are used": a vertex is left over once k classes are filled
  unfoldable pub built : List ℕ → List ℕ
  built layers = cond (all_placed greedy) greedy layers

  -- not "list length not n, class not below k, adjacent vertices in a class"
  unfoldable pub is_partition : List ℕ → Bool
  is_partition cls = eqb (length cls) n && (all_placed cls && all n (λ v. free (class_of cls v) cls v))

  -- the class list of a choice: the layers, the classes built on them, or the caller's list
  unfoldable pub classes : ℕ → List ℕ → List ℕ → List ℕ
  classes choice layers callers = let own = built layers in class_list choice callers (cond (eqb choice 1) own layers) n

  -- a class list that is a partition: a class below k for each of n vertices, and no two adjacent vertices in a class
  pub record Partition (cls : List ℕ) : Type 0 where
    pub size : length cls ≡ n
    pub below : (v : ℕ) → v < n → class_of cls v < k
    pub apart : (u v : ℕ) → u < n → v < n → class_of cls u ≡ class_of cls v → adj u v ≡ false
