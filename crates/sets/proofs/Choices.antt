-- Laws of sums over choices, and of matching choices: where two tests' choices match one to one, there are as many of
-- either.
use mathlib.Core.Path.{◌≡◌, refl, sym, ap, ◌∙◌}
use mathlib.Core.Bool.{Bool, true, ◌&&◌}
use Prim.Native.Nat.{ℕ, zero, suc, ◌+◌, ◌≤◌, ◌<◌}
use native.Mathlib.Omega.{arith}
use lib.Dec.{eqb}
use borrow.Author.Tests.{eqb-true, eq-eqb}
use Rattle.sets.specs.Below.{sum_to, one, replace, all}
use Rattle.sets.specs.Choices.{sum_choices, choices, same}
use Rattle.sets.proofs.Tests.{bool, is_false, below}
use Rattle.sets.proofs.Below.{all_in, all_false, sum_same, sum_zero, sum_both, sum_mono, sum_swap, sum_without}
use Rattle.sets.proofs.Below.{replace_same, replace_other}

-- a choice e for the r places from d on, as it comes up: below d it is c, and the r places have numbers below n
pub record From (n r d : ℕ) (c e : ℕ → ℕ) : Type 0 where
  pub before : (j : ℕ) → j < d → e j ≡ c j
  pub small : (j : ℕ) → d ≤ j → j < d + r → e j < n

from_here : (n r d v : ℕ) (c e : ℕ → ℕ) → v < n → From n r (suc d) (replace d v c) e → From n (suc r) d c e
from_here n r d v c e l x = record {
  before = λ j h. x.before j (omega arith) ∙ replace_other d v c j (λ q. omega arith);
  small = λ j a b. below d j (omega arith) (λ h. x.small j (omega arith) (omega arith))
      (λ q. let z = x.before d (omega arith) ∙ replace_same d v c in let y = ap e q in omega arith);
}

-- the sums agree where f and g do, on choices that agree from lo on
pub choices_like : (n r d lo : ℕ) (c c₂ : ℕ → ℕ) (f g : (ℕ → ℕ) → ℕ) → ((j : ℕ) → lo ≤ j → j < d → c j ≡ c₂ j)
    → ((e e₂ : ℕ → ℕ) → From n r d c e → ((j : ℕ) → lo ≤ j → j < d + r → e j ≡ e₂ j) → f e ≡ g e₂)
    → sum_choices n r d c f ≡ sum_choices n r d c₂ g
unfolding sum_choices
choices_like n zero d lo c c₂ f g a h = h c c₂ (record { before = λ j l. refl; small = λ j x y. absurd (omega arith) })
    (λ j x y. a j x (omega arith))
choices_like n (suc r) d lo c c₂ f g a h = sum_same n _ _
    (λ v l. choices_like n r (suc d) lo (replace d v c) (replace d v c₂) f g
    (λ j x y. below j d y (λ z. replace_other d v c j (λ q. omega arith) ∙ a j x z
    ∙ sym (replace_other d v c₂ j (λ q. omega arith)))
    (λ q. rw q (replace_same d v c ∙ sym (replace_same d v c₂))))
    (λ e e₂ x y. h e e₂ (from_here n r d v c e l x) (λ j p q. y j p (omega arith))))

pub choices_same : (n r d : ℕ) (c : ℕ → ℕ) (f g : (ℕ → ℕ) → ℕ) → ((e : ℕ → ℕ) → From n r d c e → f e ≡ g e)
    → sum_choices n r d c f ≡ sum_choices n r d c g
unfolding sum_choices
choices_same n zero d c f g h = h c (record { before = λ j l. refl; small = λ j x y. absurd (omega arith) })
choices_same n (suc r) d c f g h = sum_same n _ _
    (λ v l. choices_same n r (suc d) (replace d v c) f g (λ e x. h e (from_here n r d v c e l x)))

pub choices_zero : (n r d : ℕ) (c : ℕ → ℕ) (f : (ℕ → ℕ) → ℕ) → ((e : ℕ → ℕ) → From n r d c e → f e ≡ 0)
    → sum_choices n r d c f ≡ 0
unfolding sum_choices
choices_zero n zero d c f h = h c (record { before = λ j l. refl; small = λ j x y. absurd (omega arith) })
choices_zero n (suc r) d c f h = sum_zero n _
    (λ v l. choices_zero n r (suc d) (replace d v c) f (λ e x. h e (from_here n r d v c e l x)))

pub choices_both : (n r d : ℕ) (c : ℕ → ℕ) (f g : (ℕ → ℕ) → ℕ)
    → sum_choices n r d c (λ e. f e + g e) ≡ sum_choices n r d c f + sum_choices n r d c g
unfolding sum_choices
choices_both n zero d c f g = refl
choices_both n (suc r) d c f g = sum_same n _ _ (λ v l. choices_both n r (suc d) (replace d v c) f g) ∙ sum_both n _ _

pub choices_mono : (n r d : ℕ) (c : ℕ → ℕ) (f g : (ℕ → ℕ) → ℕ) → ((e : ℕ → ℕ) → f e ≤ g e)
    → sum_choices n r d c f ≤ sum_choices n r d c g
unfolding sum_choices
choices_mono n zero d c f g h = h c
choices_mono n (suc r) d c f g h = sum_mono n _ _ (λ v l. choices_mono n r (suc d) (replace d v c) f g h)

-- sums change places
pub choices_sum : (n r d m : ℕ) (c : ℕ → ℕ) (h : ℕ → (ℕ → ℕ) → ℕ)
    → sum_choices n r d c (λ e. sum_to m (λ v. h v e)) ≡ sum_to m (λ v. sum_choices n r d c (h v))
unfolding sum_choices
choices_sum n zero d m c h = refl
choices_sum n (suc r) d m c h = sum_same n _ _ (λ v l. choices_sum n r (suc d) m (replace d v c) h)
    ∙ sum_swap n m (λ v u. sum_choices n r (suc d) (replace d v c) (h u))

pub choices_swap : (n r d r₂ d₂ : ℕ) (c c₂ : ℕ → ℕ) (h : (ℕ → ℕ) → (ℕ → ℕ) → ℕ)
    → sum_choices n r d c (λ e. sum_choices n r₂ d₂ c₂ (h e))
    ≡ sum_choices n r₂ d₂ c₂ (λ e₂. sum_choices n r d c (λ e. h e e₂))
unfolding sum_choices
choices_swap n zero d r₂ d₂ c c₂ h = refl
choices_swap n (suc r) d r₂ d₂ c c₂ h =
    sum_same n _ _ (λ v l. choices_swap n r (suc d) r₂ d₂ (replace d v c) c₂ h)
    ∙ sym (choices_sum n r₂ d₂ n c₂ (λ v e₂. sum_choices n r (suc d) (replace d v c) (λ e. h e e₂)))

-- just one choice is the same as x
choices_one : (n r d : ℕ) (c x : ℕ → ℕ) → ((j : ℕ) → j < d → c j ≡ x j) → ((j : ℕ) → d ≤ j → j < d + r → x j < n)
    → sum_choices n r d c (λ e. one (same (d + r) e x)) ≡ 1
unfolding sum_choices same
choices_one n zero d c x a b =
    let z : d + 0 ≡ d = omega arith in
    rw z (ap one (all_in d _ (λ j l. eq-eqb _ _ (a j l))))
choices_one n (suc r) d c x a b =
    let z : d + suc r ≡ suc d + r = omega arith in
    sum_without n (x d) _ (λ v. 0) (b d (omega arith) (omega arith)) refl
    (λ v l ne. choices_zero n r (suc d) (replace d v c) _ (λ e y.
    ap one (all_false (d + suc r) (λ j. eqb (e j) (x j)) d (omega arith)
    (is_false _ (λ t. ne (sym (replace_same d v c) ∙ sym (y.before d (omega arith)) ∙ eqb-true _ _ t))))))
    ∙ (let q = sum_zero n (λ v. 0) (λ i l. refl) in
    let p = choices_one n r (suc d) (replace d (x d) c) x
    (λ j l. below j d l (λ h. replace_other d (x d) c j (λ i. omega arith) ∙ a j h)
    (λ i. rw i (replace_same d (x d) c)))
    (λ j l h. b j (omega arith) (omega arith)) in
    let s = ap (λ (m : ℕ). sum_choices n r (suc d) (replace d (x d) c) (λ e. one (all m (λ j. eqb (e j) (x j))))) z in
    omega arith)

-- the choices that pass P and those that pass Q match by f and g: there are as many of either
pub choices_match : (n k : ℕ) (P Q : (ℕ → ℕ) → Bool) (f g : (ℕ → ℕ) → ℕ → ℕ)
    → ((e : ℕ → ℕ) → P e ≡ true → (j : ℕ) → j < k → f e j < n)
    → ((e : ℕ → ℕ) → Q e ≡ true → (j : ℕ) → j < k → g e j < n)
    → ((e e₂ : ℕ → ℕ) → (P e && same k e₂ (f e)) ≡ (Q e₂ && same k e (g e₂)))
    → choices n k 0 P ≡ choices n k 0 Q
unfolding choices
choices_match n k P Q f g a b h =
    sym (each P f a) ∙ choices_same n k 0 z _ _ (λ e x. choices_same n k 0 z _ _ (λ e₂ y. ap one (h e e₂)))
    ∙ choices_swap n k 0 k 0 z z (λ e e₂. one (Q e₂ && same k e (g e₂))) ∙ each Q g b
  where
    z : ℕ → ℕ
    z j = 0

    each : (R : (ℕ → ℕ) → Bool) (q : (ℕ → ℕ) → ℕ → ℕ) → ((e : ℕ → ℕ) → R e ≡ true → (j : ℕ) → j < k → q e j < n)
        → sum_choices n k 0 z (λ e. sum_choices n k 0 z (λ e₂. one (R e && same k e₂ (q e))))
        ≡ sum_choices n k 0 z (λ e. one (R e))
    each R q l = choices_same n k 0 z _ _ (λ e x. bool (R e)
        (λ t. rw t (let i : 0 + k ≡ k = omega arith in
        rw i at (choices_one n k 0 z (q e) (λ j h. absurd (omega arith)) (λ j h y. l e t j (omega arith)))))
        (λ t. rw t (choices_zero n k 0 z (λ e₂. 0) (λ e₂ y. refl))))
