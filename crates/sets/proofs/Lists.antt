-- Lists that are a function at each place, and a loop that fills one from the front.
use mathlib.Core.Path.{◌≡◌, refl, sym, ◌∙◌}
use mathlib.Core.List.{List, [], ◌∷◌, ◌++◌, append-nil, append_assoc}
use Prim.Native.Nat.{ℕ, zero, suc, ◌+◌, ◌<◌}
use native.Mathlib.Numerals.{add-one}
use native.Mathlib.Omega.{arith}
use lib.ListN.{length, drop, set, get_or, length-append, get_or-append}
use lib.Seq.{drop-length, drop-cons, set_at, get_or_at}
use Rattle.sets.specs.Below.{tabulate}
use Rattle.sets.proofs.Tests.{below}

pub length_tabulate : (m : ℕ) (f : ℕ → ℕ) → length (tabulate m f) ≡ m
unfolding tabulate
length_tabulate zero f = refl
length_tabulate (suc m) f = rw (length-append, length_tabulate m f, add-one)

pub get_d_tabulate : (m : ℕ) (f : ℕ → ℕ) (i d : ℕ) → i < m → get_or (tabulate m f) i d ≡ f i
unfolding tabulate
get_d_tabulate zero f i d h = absurd (omega arith)
get_d_tabulate (suc m) f i d h = below i m h
    (λ l. get_or-append (tabulate m f) (f m ∷ []) d i (rw length_tabulate l) ∙ get_d_tabulate m f i d l)
    (λ q. rw q (get_or_at (tabulate m f) (f m) [] d m (length_tabulate m f)))

pub tabulate_same : (m : ℕ) (f g : ℕ → ℕ) → ((i : ℕ) → i < m → f i ≡ g i) → tabulate m f ≡ tabulate m g
unfolding tabulate
tabulate_same zero f g h = refl
tabulate_same (suc m) f g h = rw (tabulate_same m f g (λ i l. h i (omega arith)), h m (omega arith))

-- the loop `while i < d.len() { d[i] = f(i); i += 1; }`: nothing filled, one place more, all filled
pub tab_none : (d : List ℕ) (f : ℕ → ℕ) → d ≡ tabulate 0 f ++ drop 0 d
unfolding tabulate
tab_none d f = refl

pub tab_more : (d e : List ℕ) (f : ℕ → ℕ) (i v : ℕ) → i < length d → e ≡ tabulate i f ++ drop i d → v ≡ f i
    → set e i v ≡ tabulate (i + 1) f ++ drop (i + 1) d
unfolding tabulate
tab_more d e f i v h q w =
    rw (q, w, drop-cons d i 0 h, add-one)
    (set_at (tabulate i f) (get_or d i 0) (drop (suc i) d) (f i) i (length_tabulate i f)
    ∙ sym (append_assoc (tabulate i f) (f i ∷ []) (drop (suc i) d)))

pub tab_done : (d e : List ℕ) (f : ℕ → ℕ) (i : ℕ) → i ≡ length d → e ≡ tabulate i f ++ drop i d
    → e ≡ tabulate (length d) f
tab_done d e f i h q = q ∙ rw (h, drop-length) (append-nil _)
