-- The links of a graph, by the counts of their vertices in words.
use mathlib.Core.Path.{◌≡◌, refl, sym, ap, ◌∙◌}
use mathlib.Core.Bool.{Bool, true, false, cond}
use mathlib.Core.List.{List}
use Prim.Native.Nat.{ℕ, zero, suc, ◌+◌, ◌≤◌, ◌<◌}
use native.Mathlib.Numerals.{add-one}
use native.Mathlib.Omega.{arith}
use lib.Dec.{leb}
use lib.ListN.{length, take, get_or}
use lib.Seq.{get_or-take, length-take-le}
use borrow.Author.Tests.{le-leb, lt-leb}
use Rattle.sets.specs.Below.{sum_to, tabulate}
use Rattle.sets.proofs.Below.{sum_more, sum_in}
use Rattle.sets.proofs.Lists.{get_d_tabulate}
use Rattle.dimacs.specs.Reading.{count_of, first_of, vertices_of, layer_by}
use Rattle.graph_read.specs.Graphs.{LayersTold}

pub first_none : (cs : List ℕ) → 0 ≡ first_of cs 0
unfolding first_of sum_to
first_none cs = refl

pub first_more : (counts : List ℕ) (k i first : ℕ) → i < k → first ≡ first_of (take k counts) i
    → first + get_or counts i 0 ≡ first_of (take k counts) (i + 1)
unfolding first_of
first_more counts k i first h e =
    let q = get_or-take k counts i 0 h in
    let s = sum_more i (count_of (take k counts)) in
    omega arith

-- the vertices of a link end where those of the next begin
pub first_within : (cs : List ℕ) (l m : ℕ) → l < m → first_of cs l + count_of cs l ≤ first_of cs m
unfolding first_of
first_within cs l m h = sum_in m l (count_of cs) h

pub first_fits : (counts : List ℕ) (k i first : ℕ) → i < k → first ≡ first_of (take k counts) i
    → first + get_or counts i 0 ≤ first_of (take k counts) k
first_fits counts k i first h e = omega (arith, first_within (take k counts) i k h, get_or-take k counts i 0 h)

pub first_back : (counts : List ℕ) (k l m first : ℕ) → l ≡ m + 1 → m < k → first ≡ first_of (take k counts) l
    → first ≡ first_of (take k counts) m + get_or counts m 0
first_back counts k l m first q h e =
    let f = first_of (take k counts) in
    e ∙ ap f q ∙ sym (first_more counts k m (f m) h refl)

-- the number of vertices
pub all_first : (counts : List ℕ) (k : ℕ) → k ≤ length counts → first_of (take k counts) k ≡ vertices_of (take k counts)
all_first counts k h = ap (first_of (take k counts)) (sym (length-take-le k counts h))

-- the layer of a vertex, from the last link down
pub layer_hit : (cs : List ℕ) (l m v : ℕ) → l ≡ m + 1 → first_of cs m ≤ v → layer_by cs l v ≡ m
unfolding layer_by
layer_hit cs l m v q h = rw (q, add-one, le-leb (first_of cs m) v h)

pub layer_down : (cs : List ℕ) (l m v : ℕ) → l ≡ m + 1 → v < first_of cs m → layer_by cs l v ≡ layer_by cs m v
unfolding layer_by
layer_down cs l m v q h = rw (q, add-one, lt-leb (first_of cs m) v h)

pub layer_none : (cs : List ℕ) (l v : ℕ) → l ≡ 0 → layer_by cs l v ≡ 0
unfolding layer_by
layer_none cs l v e = rw e refl

-- a link is one of k, or 0 where there is none
either_few : (b : Bool) (m l : ℕ) → l ≤ m → cond b m l ≤ suc m
either_few true m l h = omega arith
either_few false m l h = omega arith

pub layer_few : (cs : List ℕ) (k v : ℕ) → layer_by cs k v ≤ k
unfolding layer_by
layer_few cs zero v = omega arith
layer_few cs (suc m) v = either_few (leb (first_of cs m) v) m (layer_by cs m v) (layer_few cs m v)

-- the table of the links of the vertices
pub layers_told : {layers : List ℕ} (counts : List ℕ) (k n m : ℕ) → k ≤ length counts
    → n ≡ first_of (take k counts) k → m ≡ 512 → layers ≡ tabulate m (layer_by (take k counts) k)
    → LayersTold (take k counts) n layers
layers_told counts k n m h e l t =
    let f = layer_by (take k counts) in
    record {
      vertices = e ∙ all_first counts k h;
      are = t ∙ ap (λ j. tabulate j (f k)) l ∙ ap (λ j. tabulate 512 (f j)) (sym (length-take-le k counts h));
    }

pub layer_at : {cs : List ℕ} {n : ℕ} {layers : List ℕ} → LayersTold cs n layers → n ≤ 512 → (v : ℕ) → v < n
    → get_or layers v 0 ≡ layer_by cs (length cs) v
layer_at {cs} t few v h = ap (λ l. get_or l v 0) t.are ∙ get_d_tabulate 512 (layer_by cs (length cs)) v 0 (omega arith)
