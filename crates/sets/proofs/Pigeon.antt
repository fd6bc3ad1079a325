-- A one-to-one map of k numbers into k numbers takes each value.
use mathlib.Core.Path.{◌≡◌, sym, ◌∙◌}
use mathlib.Core.Bool.{true, false}
use Prim.Native.Nat.{ℕ, zero, suc, ◌<◌}
use native.Mathlib.Omega.{arith}
use lib.Dec.{eqb}
use borrow.Author.Tests.{eqb-true, eq-eqb}
use Rattle.sets.specs.Below.{any, first, replace}
use Rattle.sets.proofs.Tests.{clash, bool, case, below}
use Rattle.sets.proofs.Below.{any_no, first_lt, first_is, replace_same, replace_other}

abbrev pub Into : ℕ → ℕ → (ℕ → ℕ) → Type 0
Into m k f = (j : ℕ) → j < m → f j < k

abbrev pub Inj : ℕ → (ℕ → ℕ) → Type 0
Inj m f = (i j : ℕ) → i < m → j < m → (i ≡ j → ⊥) → f i ≡ f j → ⊥

-- what is at k goes to where the last one is
fold : ℕ → ℕ → (ℕ → ℕ) → ℕ → ℕ
fold k v f j = elim (eqb (f j) k) [ true ↦ v | false ↦ f j ]

crowd : (k : ℕ) (f : ℕ → ℕ) → Into (suc k) k f → Inj (suc k) f → ⊥
unfolding fold
crowd zero f a b = let h = a 0 (omega arith) in omega arith
crowd (suc k) f a b = crowd k (fold k (f (suc k)) f)
    (λ j l. case (λ w. w < k) (eqb (f j) k) (f (suc k)) (f j)
    (λ e. let h = a (suc k) (omega arith) in let q = eqb-true (f j) k e in
    let ne : f (suc k) ≡ k → ⊥ = λ i. b j (suc k) (omega arith) (omega arith) (λ x. omega arith) (q ∙ sym i) in
    omega arith)
    (λ e. let h = a j (omega arith) in let ne : f j ≡ k → ⊥ = λ i. clash (eqb (f j) k) (eq-eqb _ _ i) e in omega arith))
    (λ i j l r ne. case (λ w. w ≡ fold k (f (suc k)) f j → ⊥) (eqb (f i) k) (f (suc k)) (f i)
    (λ e. case (λ w. f (suc k) ≡ w → ⊥) (eqb (f j) k) (f (suc k)) (f j)
    (λ g q. b i j (omega arith) (omega arith) ne (eqb-true _ _ e ∙ sym (eqb-true _ _ g)))
    (λ g q. b (suc k) j (omega arith) (omega arith) (λ x. omega arith) q))
    (λ e. case (λ w. f i ≡ w → ⊥) (eqb (f j) k) (f (suc k)) (f j)
    (λ g q. b i (suc k) (omega arith) (omega arith) (λ x. omega arith) q)
    (λ g q. b i j (omega arith) (omega arith) ne q)))

pub onto : (k : ℕ) (f : ℕ → ℕ) → Into k k f → Inj k f → (m : ℕ) → m < k → (j : ℕ) × (j < k) × (f j ≡ m)
onto k f a b m l = bool (any k (λ j. eqb (f j) m))
    (λ e. (first k (λ j. eqb (f j) m), first_lt k (λ j. eqb (f j) m) e, eqb-true _ _ (first_is k (λ j. eqb (f j) m) e)))
    (λ e. absurd (crowd k (replace k m f)
    (λ j h. below j k h (λ i. rw (other j i) (a j i)) (λ i. rw (i, replace_same k m f) l))
    (λ i j x y ne q. below i k x
    (λ s. below j k y (λ t. b i j s t ne (sym (other i s) ∙ q ∙ other j t))
    (λ t. miss i s e (sym (other i s) ∙ q ∙ (rw t (replace_same k m f)))))
    (λ s. below j k y (λ t. miss j t e (sym (other j t) ∙ sym q ∙ (rw s (replace_same k m f))))
    (λ t. ne (s ∙ sym t))))))
  where
    other : (j : ℕ) → j < k → replace k m f j ≡ f j
    other j i = replace_other k m f j (λ x. omega arith)

    miss : (j : ℕ) → j < k → any k (λ j. eqb (f j) m) ≡ false → f j ≡ m → ⊥
    miss j x e q = any_no k (λ j. eqb (f j) m) e j x (eq-eqb _ _ q)
