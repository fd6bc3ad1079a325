-- Laws of intersection, union and difference.
use mathlib.Core.Path.{◌≡◌, refl, sym, ap, fun_ext}
use mathlib.Core.Bool.{Bool, true, false, not, ◌&&◌, ◌||◌}
use Prim.Native.Nat.{ℕ, zero, suc, ◌<◌}
use native.Mathlib.Omega.{arith}
use lib.Dec.{eqb}
use borrow.Author.Tests.{eq-eqb, ne_eqb}
use Rattle.sets.specs.Below.{one, count}
use Rattle.sets.specs.Sets.{Set, ◌⊆◌, ◌∩◌, ◌∪◌, ◌∖◌, just}
use Rattle.sets.proofs.Tests.{clash, is_false, iff, and_l, and_r, and_in, not_out, not_in, below}
use Rattle.sets.proofs.Below.{count_same}

pub meet_l : (S T : Set) → (S ∩ T) ⊆ S
unfolding ◌∩◌
meet_l S T v h = and_l (S v) (T v) h

pub meet_r : (S T : Set) → (S ∩ T) ⊆ T
unfolding ◌∩◌
meet_r S T v h = and_r (S v) (T v) h

pub meet_in : (S T : Set) (v : ℕ) → S v ≡ true → T v ≡ true → (S ∩ T) v ≡ true
unfolding ◌∩◌
meet_in S T v p q = and_in p q

pub meet_mono : (S T : Set) (p q : Set) → S ⊆ T → ((v : ℕ) → S v ≡ true → p v ≡ true → q v ≡ true) → (S ∩ p) ⊆ (T ∩ q)
meet_mono S T p q s t v h = meet_in T q v (s v (meet_l S p v h)) (t v (meet_l S p v h) (meet_r S p v h))

pub meet_self : (S : Set) → S ∩ S ≡ S
unfolding ◌∩◌
meet_self S = fun_ext (λ u. go (S u))
  where
    go : (b : Bool) → (b && b) ≡ b
    go true = refl
    go false = refl

pub join_assoc : (S T U : Set) → S ∪ T ∪ U ≡ S ∪ (T ∪ U)
unfolding ◌∪◌
join_assoc S T U = fun_ext (λ u. go (S u) (T u) (U u))
  where
    go : (a b c : Bool) → ((a || b) || c) ≡ (a || (b || c))
    go true b c = refl
    go false b c = refl

-- a set without one of its members
pub without_sub : (a : ℕ) (S : Set) → (S ∖ just a) ⊆ S
unfolding ◌∖◌
without_sub a S v h = and_l (S v) (not (just a v)) h

pub without_ne : (a : ℕ) (S : Set) (v : ℕ) → (S ∖ just a) v ≡ true → v ≡ a → ⊥
unfolding ◌∖◌ just
without_ne a S v h e = clash (eqb v a) (eq-eqb v a e) (not_out (eqb v a) (and_r (S v) (not (eqb v a)) h))

pub without_in : (a : ℕ) (S : Set) (v : ℕ) → S v ≡ true → (v ≡ a → ⊥) → (S ∖ just a) v ≡ true
unfolding ◌∖◌ just
without_in a S v h e = and_in h (not_in (ne_eqb v a e))

pub without_other : (a : ℕ) (S : Set) (v : ℕ) → (v ≡ a → ⊥) → (S ∖ just a) v ≡ S v
without_other a S v e = iff _ _ (without_sub a S v) (λ h. without_in a S v h e)

-- it has one less
pub count_without : (m : ℕ) (S : Set) (a : ℕ) → a < m → S a ≡ true → count m S ≡ suc (count m (S ∖ just a))
unfolding count
count_without zero S a h e = absurd (omega arith)
count_without (suc m) S a h e = below a m h
    (λ l. let r = count_without m S a l e in
    let b : one ((S ∖ just a) m) ≡ one (S m) = ap one (without_other a S m (λ q. omega arith)) in omega arith)
    (λ q. let x : one (S m) ≡ 1 = rw (← q, e) refl in
    let y : one ((S ∖ just a) m) ≡ 0 = rw (is_false ((S ∖ just a) m) (λ t. without_ne a S m t (sym q))) refl in
    let z = count_same m (S ∖ just a) S (λ i l. without_other a S i (λ s. omega arith)) in omega arith)
