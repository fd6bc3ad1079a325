-- The class list that is handed on has a class for each vertex.
use Rattle.std.proofs.Common.{◌≡◌, List, ℕ, ◌≤◌, arith, eqb, length, length-take-le, eqb-true}
use Rattle.sets.proofs.Tests.{bool}
use Rattle.partition.specs.Choice.{class_list}

pub list_long : (choice n : ℕ) (callers made : List ℕ) → (choice ≡ 2 → n ≤ length callers) → n ≤ length made
    → n ≤ length (class_list choice callers made n)
unfolding class_list
list_long choice n callers made a b = bool (eqb choice 2)
    (λ t. rw t (let l = length-take-le n callers (a (eqb-true choice 2 t)) in omega arith))
    (λ t. rw t (let l = length-take-le n made b in omega arith))
