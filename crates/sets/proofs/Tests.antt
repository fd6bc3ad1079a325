-- Laws of tests: a fact is written `b ≡ true` or `b ≡ false`.
use mathlib.Core.Path.{◌≡◌, refl, sym, ◌∙◌}
use mathlib.Core.Bool.{Bool, true, false, not, ◌&&◌, ◌||◌}
use mathlib.Core.Logic.{◌⊎◌, inl, inr}
use Prim.Native.Nat.{ℕ, suc, ◌<◌}
use native.Mathlib.Omega.{arith}
use lib.Dec.{eqb}
use borrow.Author.Tests.{eqb-true, eq-eqb}

-- a test does not both hold and fail
pub clash {ℓ} : {A : Type ℓ} (b : Bool) → b ≡ true → b ≡ false → A
clash b p q = let z : ◌≡◌ {A = ℕ} 0 1 = cc in absurd (omega arith)

-- a test holds or fails
pub bool {ℓ} : {A : Type ℓ} (b : Bool) → (b ≡ true → A) → (b ≡ false → A) → A
bool true f g = f refl
bool false f g = g refl

-- a choice has a property if both sides have it
pub case {ℓ ℓ'} : {A : Type ℓ} (P : A → Type ℓ') (b : Bool) (x y : A) → (b ≡ true → P x) → (b ≡ false → P y)
    → P (elim b [ true ↦ x | false ↦ y ])
case P true x y p q = p refl
case P false x y p q = q refl

pub is_false : (b : Bool) → (b ≡ true → ⊥) → b ≡ false
is_false true h = absurd (h refl)
is_false false h = refl

-- two tests that hold together are equal
pub iff : (a b : Bool) → (a ≡ true → b ≡ true) → (b ≡ true → a ≡ true) → a ≡ b
iff a b f g = bool a (λ e. e ∙ sym (f e)) (λ e. e ∙ sym (is_false b (λ t. clash a (g t) e)))

pub and_out : (a b : Bool) → (a && b) ≡ true → (a ≡ true) × (b ≡ true)
and_out true b h = (refl, h)
and_out false b h = clash false h refl

pub and_l : (a b : Bool) → (a && b) ≡ true → a ≡ true
and_l a b h = (and_out a b h).0

pub and_r : (a b : Bool) → (a && b) ≡ true → b ≡ true
and_r a b h = (and_out a b h).1

pub and_in : {a b : Bool} → a ≡ true → b ≡ true → (a && b) ≡ true
and_in {a} {b} p q = rw (p, q) refl

pub and_false : (a b : Bool) → b ≡ false → (a && b) ≡ false
and_false true b e = e
and_false false b e = refl

pub or_l : {a : Bool} (b : Bool) → a ≡ true → (a || b) ≡ true
or_l b p = rw p refl

pub or_r : (a : Bool) {b : Bool} → b ≡ true → (a || b) ≡ true
or_r true p = refl
or_r false p = p

pub or_case : (a b : Bool) → (a || b) ≡ true → (a ≡ true) ⊎ (b ≡ true)
or_case true b h = inl refl
or_case false b h = inr h

pub not_out : (a : Bool) → not a ≡ true → a ≡ false
not_out true h = clash false h refl
not_out false h = refl

pub not_in : {a : Bool} → a ≡ false → not a ≡ true
not_in h = rw h refl

pub eqb_turned : (x y : ℕ) → eqb x y ≡ eqb y x
eqb_turned x y = iff _ _ (λ e. eq-eqb y x (sym (eqb-true x y e))) (λ e. eq-eqb x y (sym (eqb-true y x e)))

-- i < m + 1 is i < m or i ≡ m
pub below {ℓ} : {A : Type ℓ} (i m : ℕ) → i < suc m → (i < m → A) → (i ≡ m → A) → A
below i m h f g = bool (eqb i m) (λ e. g (eqb-true i m e)) (λ e. f (ne_lt (λ q. clash (eqb i m) (eq-eqb i m q) e)))
  where
    ne_lt : (i ≡ m → ⊥) → i < m
    ne_lt x = omega arith
