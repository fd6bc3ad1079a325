-- The list handed on is the class list of the choice, and a layer fits a byte where k does.
use Rattle.std.proofs.Common.{◌≡◌, ap, Bool, cond, List, ℕ, zero, suc, ◌≤◌, arith, eqb, leb}
use Rattle.sets.proofs.Tests.{bool}
use Rattle.sheet_rows.specs.Rows.{link_first}
use Rattle.pair_test.specs.Layers.{layer_of}
use Rattle.partition.specs.Choice.{class_list}
use Rattle.partition.specs.Partition.{built, classes}

pub layer_small : (s : List ℕ) (k v : ℕ) → layer_of s k v ≤ k
unfolding layer_of
layer_small s zero v = omega arith
layer_small s (suc m) v = bool (leb (link_first s m) v)
    (λ t. rw t (omega arith))
    (λ t. rw t (omega (arith, layer_small s m v)))

-- `made` has the built classes for choice 1, and the layers otherwise
pub class_list_is : (n k : ℕ) (adj : ℕ → ℕ → Bool) (choice : ℕ) (layers callers made : List ℕ)
    → made ≡ cond (eqb choice 1) (built n k adj layers) layers
    → class_list choice callers made n ≡ classes n k adj choice layers callers
unfolding classes
class_list_is n k adj choice layers callers made e = ap (λ (l : List ℕ). class_list choice callers l n) e
