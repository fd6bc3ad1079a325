-- Numbers of 32 bits put one after another.
use Rattle.std.proofs.Common.{◌≡◌, refl, sym, ap, ◌∙◌, List, [], ◌∷◌, ◌++◌, ℕ, ◌+◌, ◌<◌, length, take, get_or, append_assoc, add-one}
use mathlib.Core.List.{append-nil}
use lib.Seq.{take-suc, take-length}
use Rattle.output.specs.declared.Output.{Output}
use Rattle.output.specs.Puts.{Puts}
use Rattle.output.proofs.Puts.{puts_none, puts_then, puts_same}
use Rattle.wire_put.specs.Puts.{full, fulls}

pub full_length : (x : ℕ) → length (full x) ≡ 4
unfolding full
full_length x = refl

fulls_append : (xs : List ℕ) (x : ℕ) → fulls (xs ++ (x ∷ [])) ≡ fulls xs ++ full x
unfolding fulls
fulls_append [] x = append-nil (full x)
fulls_append (y ∷ xs) x = ap (λ l. full y ++ l) (fulls_append xs x) ∙ sym (append_assoc (full y) (fulls xs) (full x))

-- the loop `for x in xs { put_full(out, *x); }`
pub fulls_none : (xs : List ℕ) (o : Output) → Puts (fulls (take 0 xs)) o o
unfolding fulls
fulls_none xs o = puts_none o

pub fulls_more : {o p q : Output} (xs : List ℕ) (i : ℕ) → i < length xs
    → Puts (fulls (take i xs)) o p → Puts (full (get_or xs i 0)) p q → Puts (fulls (take (i + 1) xs)) o q
fulls_more xs i h a b =
    puts_same
    (sym (rw add-one (ap fulls (take-suc xs i 0 h) ∙ fulls_append (take i xs) (get_or xs i 0))))
    (puts_then a b)

pub fulls_done : {o p : Output} (xs : List ℕ) (i : ℕ) → i ≡ length xs → Puts (fulls (take i xs)) o p
    → Puts (fulls xs) o p
fulls_done xs i h a = puts_same (ap fulls (ap (λ x. take x xs) h ∙ take-length xs)) a
