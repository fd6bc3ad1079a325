-- No tree is larger: a law of trees over any graph whose classes have at most m vertices, and over any filter.
use mathlib.Core.Path.{◌≡◌, refl, ◌∙◌}
use mathlib.Core.Bool.{Bool, true, false}
use Prim.Native.Nat.{ℕ, zero, suc, ◌+◌, ◌*◌, ◌≤◌}
use native.Mathlib.Nat.{pow-zero, pow-succ', mul-le-mul_right}
use native.Mathlib.Omega.{arith}
use lib.Dec.{eqb}
use Rattle.sets.specs.Below.{one, count, sum_to}
use Rattle.sets.specs.Sets.{Set, ◌∩◌}
use Rattle.sets.proofs.Tests.{case}
use Rattle.sets.proofs.Below.{count_mono}
use Rattle.sets.proofs.Sets.{meet_r}
use Rattle.cliques.specs.Graph.{Graph, in_class, is_open}
use Rattle.filters.specs.Promise.{Filter}
use Rattle.filters.specs.Switches.{at_node}
use Rattle.search.specs.Tree.{Tree, found, no_plan, nodes, plus, choose, and_then, in_turn, node}
use Rattle.search.specs.Setting.{root, root_set, entered, tree}
use Rattle.search.proofs.Tree.{more}
use Rattle.tree_size.specs.Size.{full}

-- laws of the size
pub full_none : (m : ℕ) → full m 0 ≡ 0
unfolding full sum_to
full_none m = refl

-- a node, and m full trees below it
pub full_more : (m r : ℕ) → full m (suc r) ≡ 1 + m * full m r
unfolding full sum_to
full_more m zero = rw pow-zero (omega arith)
full_more m (suc r) = let e = full_more m r in rw (pow-succ' m r) (omega arith)

pub full_one : (m : ℕ) → full m 1 ≡ 1
full_one m = full_more m 0 ∙ rw full_none (omega arith)

-- at most s nodes without a plan, and one more with it
abbrev pub AtMost : ℕ → Tree → Type 0
AtMost s (found c t) = t ≤ s + 1
AtMost s (no_plan t) = t ≤ s

pub at_most_nodes : (s : ℕ) (t : Tree) → AtMost s t → nodes t ≤ s + 1
at_most_nodes s (found c t) h = h
at_most_nodes s (no_plan t) h = omega arith

at_most_le : (s u : ℕ) (t : Tree) → s ≤ u → AtMost s t → AtMost u t
at_most_le s u (found c t) l h = omega arith
at_most_le s u (no_plan t) l h = omega arith

at_most_plus : (s : ℕ) (t : Tree) → AtMost s t → AtMost (1 + s) (plus 1 t)
unfolding plus
at_most_plus s (found c t) h = omega arith
at_most_plus s (no_plan t) h = omega arith

at_most_choose : (s d v : ℕ) (t : Tree) → AtMost s t → AtMost s (choose d v t)
unfolding choose
at_most_choose s d v (found c t) h = h
at_most_choose s d v (no_plan t) h = h

-- one more vertex
at_most_more : (c s : ℕ) (a : Tree) (p : Bool) (x : Tree) → AtMost (c * s) a → (p ≡ true → AtMost s x)
    → AtMost ((one p + c) * s) (more a p x)
unfolding plus and_then
at_most_more c s (found e t) true x h f = omega arith
at_most_more c s (found e t) false x h f = omega arith
at_most_more c s (no_plan t) true (found e u) h f = let g = f refl in omega arith
at_most_more c s (no_plan t) true (no_plan u) h f = let g = f refl in omega arith
at_most_more c s (no_plan t) false x h f = omega arith

in_turn_at_most : (s : ℕ) (f : ℕ → Tree) (p : Set) (m : ℕ) → ((v : ℕ) → AtMost s (f v))
    → AtMost (count m p * s) (in_turn false f p m)
unfolding in_turn count
in_turn_at_most s f p zero h = omega arith
in_turn_at_most s f p (suc m) h =
    at_most_more (count m p) s (in_turn false f p m) (p m) (f m) (in_turn_at_most s f p m h) (λ _. h m)

module _ (G : Graph) (m : ℕ) (few : (c : ℕ) → count G.n (λ v. eqb (G.cls v) c) ≤ m) where
  open G use {n, k, cls, adj}

  class_few : (c : ℕ) (L : Set) → count n (in_class G c L) ≤ m
  unfolding in_class
  class_few c L =
      let a = count_mono n (in_class G c L) (λ v. eqb (cls v) c) (λ v l h. meet_r L (λ v. eqb (cls v) c) v h) in
      omega (arith, few c)

  -- with r classes to come, whatever the filter strikes
  pub node_at_most : (F : Filter) (r d : ℕ) (L : Set) → AtMost (full m r) (node false G F r d L)
  unfolding node
  node_at_most F zero d L = omega arith
  node_at_most F (suc r) d L = case (AtMost (full m (suc r))) (is_open G d (F d L)) _ _
      (λ o. at_most_le _ _ (plus 1 turn)
      (let h = mul-le-mul_right (full m r) (class_few d (F d L)) in omega (arith, full_more m r))
      (at_most_plus _ turn (in_turn_at_most (full m r) _ (in_class G d (F d L)) n
      (λ v. at_most_choose _ d v _ (node_at_most F r (suc d) (F d L ∩ adj v))))))
      (λ o. omega (arith, full_more m r))
    where
      turn : Tree
      turn = in_turn false (λ v. choose d v (node false G F r (suc d) (F d L ∩ adj v))) (in_class G d (F d L)) n

  pub tree_at_most : (f : ℕ) (lay : ℕ → ℕ) (L : Set) → AtMost (full m k) (tree false f G lay L)
  unfolding tree root
  tree_at_most f lay L = case (AtMost (full m k)) (entered f G lay L) _ _
      (λ o. node_at_most (at_node f G) k 0 (root_set f G lay L)) (λ o. omega arith)
