-- A field takes a byte at least.
use mathlib.Core.List.{List, [], ◌∷◌}
use Prim.Native.Nat.{ℕ, ◌+◌, ◌-◌, ◌*◌, ◌≤◌, ◌<◌}
use native.Mathlib.Omega.{arith}
use lib.Dec.{eqb}
use lib.ListN.{length}
use Rattle.sets.proofs.Tests.{case}
use Rattle.dimacs.specs.Reading.{Number, no_number, number, is_digit, digits_from, read_number, ended_by, field}

-- what holds of the bytes after a number, if one was read
abbrev pub After : (List ℕ → Type 0) → Number → Type 0
After P no_number = Unit {0}
After P (number v s) = P s

after_more : (P Q : List ℕ → Type 0) → ((s : List ℕ) → P s → Q s) → (w : Number) → After P w → After Q w
after_more P Q f no_number a = tt
after_more P Q f (number v s) a = f s a

digits_shorter : (v : ℕ) (s : List ℕ) → After (λ r. length r ≤ length s) (digits_from v s)
unfolding digits_from
digits_shorter v [] = omega arith
digits_shorter v (b ∷ s) =
    let w = 10 * v + (b - 48) in
    case (After (λ r. length r ≤ length (b ∷ s))) (is_digit b) _ _
    (λ _. after_more (λ r. length r ≤ length s) (λ r. length r ≤ length (b ∷ s)) (λ r h. omega arith)
    (digits_from w s) (digits_shorter w s))
    (λ _. omega arith)

number_shorter : (s : List ℕ) → After (λ r. length r ≤ length s) (read_number s)
unfolding read_number
number_shorter [] = tt
number_shorter (b ∷ s) = case (After (λ r. length r ≤ length (b ∷ s))) (eqb b 48) _ _ (λ _. omega arith)
    (λ _. case (After (λ r. length r ≤ length (b ∷ s))) (is_digit b) _ _ (λ _. digits_shorter 0 (b ∷ s)) (λ _. tt))

ended_shorter : (end m : ℕ) (w : Number) → After (λ r. length r ≤ m) w → After (λ r. length r < m) (ended_by end w)
unfolding ended_by
ended_shorter end m no_number a = tt
ended_shorter end m (number v []) a = tt
ended_shorter end m (number v (b ∷ s)) a = case (After (λ r. length r < m)) (eqb b end) _ _ (λ _. omega arith) (λ _. tt)

pub field_shorter : (ws : List ℕ) (end : ℕ) (s : List ℕ) → After (λ r. length r < length s) (field ws end s)
unfolding field
field_shorter [] end s = ended_shorter end (length s) (read_number s) (number_shorter s)
field_shorter (w ∷ ws) end [] = tt
field_shorter (w ∷ ws) end (b ∷ s) = case (After (λ r. length r < length (b ∷ s))) (eqb b w) _ _
    (λ _. after_more (λ r. length r < length s) (λ r. length r < length (b ∷ s)) (λ r h. omega arith)
    (field ws end s) (field_shorter ws end s))
    (λ _. tt)
