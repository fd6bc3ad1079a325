-- Laws of the spacing to spare: the difference of two numbers, its sign and its range, and what each kind of rule looks
-- at.
use Rattle.std.proofs.Common.{ℕ, zero, suc, ◌+◌, ◌-◌, ◌*◌, ◌^◌, ◌≤◌, ◌<◌, ◌≡◌, refl, sym, ap, ◌∙◌, Bool, true, false, not, cond, ◌&&◌, arith, eqb, ltb, leb, w32, w64, SFits, to_z, of_z, eqb-true, ltb-true, ltb-false, leb-true, ne_eqb, lt-ltb, le-ltb, le-leb}
use lib.IntN.{ℤ, pos, negsuc, sub_ℕ, ◌-ℤ◌}
use lib.Signed.{mag, le_z}
use mir.ValLaws.{to_z-of_z}
use borrow.Author.Tests.{eqb-false, lt-leb}
use Rattle.sets.proofs.Tests.{bool, iff, and_l, and_in}
use Rattle.spacing.specs.Spacing.{distance, zero_or_more, spare_by, spare_without, in_range}

-- a − b by the order of the two
sub_below : (a b : ℕ) → a < b → sub_ℕ a b ≡ negsuc (b - suc a)
sub_below a b h = rw (lt-ltb a b h)

sub_above : (a b : ℕ) → b ≤ a → sub_ℕ a b ≡ pos (a - b)
sub_above a b h = rw (le-ltb a b h)

-- the difference of two numbers as the code forms it
pub minus_is : (a b : ℕ) → pos a -ℤ pos b ≡ sub_ℕ a b
minus_is a zero = sym (sub_above a 0 (omega arith) ∙ ap pos (omega arith))
minus_is a (suc b) = refl

-- "zero or more" where there is as much as is asked
pub sub_allowed : (a b : ℕ) → zero_or_more (sub_ℕ a b) ≡ leb b a
unfolding zero_or_more
sub_allowed a b = bool (ltb a b)
    (λ e. let h = ltb-true a b e in rw (e, lt-leb b a h))
    (λ e. let h = ltb-false a b e in rw (e, le-leb b a h))

-- what a function hands on
pub read_back : {z x : ℤ} → mag z < 2 ^ 63 → z ≡ x → to_z w64 (of_z w64 z) ≡ x
read_back {z} f e = to_z-of_z w64 z (record { sfits = f }) ∙ e

pub read_allowed : (z : ℤ) → SFits w64 z → le_z (pos 0) (to_z w64 (of_z w64 z)) ≡ zero_or_more z
unfolding zero_or_more
read_allowed z f = ap (le_z (pos 0)) (to_z-of_z w64 z f) ∙ same z
  where
    same : (z : ℤ) → le_z (pos 0) z ≡ zero_or_more z
    same (pos n) = le-leb 0 n (omega arith)
    same (negsuc n) = refl

pub distance_turned : (x y : ℕ) → distance x y ≡ distance y x
unfolding distance
distance_turned x y = omega arith

pub distance_same : (x : ℕ) → distance x x ≡ 0
unfolding distance
distance_same x = omega arith

pub distance_most : (x y most : ℕ) → (0 < x) × (x ≤ most) → (0 < y) × (y ≤ most) → distance x y + 1 ≤ most
unfolding distance
distance_most x y most f g = omega (arith, f, g)

-- the spare of each kind, as the code tells it

pub by_one : (kind value w d : ℕ) (l : Bool) → kind ≡ 1 → sub_ℕ (2 * d) (2 * value + w) ≡ spare_by kind value w d l
unfolding spare_by
by_one kind value w d l e = rw e refl

pub by_two : (kind value w d : ℕ) (l : Bool) → kind ≡ 2 → sub_ℕ 0 (2 * distance d value) ≡ spare_by kind value w d l
unfolding spare_by
by_two kind value w d l e = rw e refl

-- a rule of kind 3 looks at the list alone, and no other looks at it

pub by_listed : (kind value w x d e : ℕ) (l : Bool) → kind ≡ 3 → spare_by kind value w d l ≡ spare_by kind value x e l
unfolding spare_by
by_listed kind value w x d e l h = rw h

pub by_plain : (kind value w d : ℕ) (l m : Bool) → (kind ≡ 3 → ⊥) → spare_by kind value w d l ≡ spare_by kind value w d m
unfolding spare_by
by_plain kind value w d l m h = rw (ne_eqb kind 3 h)

-- what is allowed: by kind 3 just what is listed, by kind 1 of form 1 what differs by the value, and by neither kind 1
-- nor kind 2 what does not differ

pub three_allowed : (kind value w d : ℕ) (l : Bool) → kind ≡ 3 → zero_or_more (spare_by kind value w d l) ≡ l
unfolding spare_by zero_or_more
three_allowed kind value w d true h = rw h
three_allowed kind value w d false h = rw h

pub centres_allowed : (value d : ℕ) (l : Bool) → zero_or_more (spare_by 1 value 0 d l) ≡ leb value d
unfolding spare_by
centres_allowed value d l = sub_allowed (2 * d) (2 * value + 0) ∙ iff _ _
    (λ e. let z = leb-true (2 * value + 0) (2 * d) e in le-leb value d (omega arith))
    (λ e. let z = leb-true value d e in le-leb (2 * value + 0) (2 * d) (omega arith))

pub near_barred : (value w d : ℕ) (l : Bool) → d < value → zero_or_more (spare_by 1 value w d l) ≡ false
unfolding spare_by
near_barred value w d l h = sub_allowed (2 * d) (2 * value + w) ∙ lt-leb (2 * value + w) (2 * d) (omega arith)

pub equal_barred : (kind value w : ℕ) → (kind ≡ 3 → ⊥) → 0 < value → zero_or_more (spare_by kind value w 0 false) ≡ false
unfolding spare_by distance zero_or_more
equal_barred kind value w ne h = bool (eqb kind 1)
    (λ e. rw e (sub_allowed 0 (2 * value + w) ∙ lt-leb (2 * value + w) 0 (omega arith)))
    (λ e. bool (eqb kind 2)
    (λ f. rw (e, f) (sub_allowed 0 (2 * distance 0 value) ∙ lt-leb (2 * distance 0 value) 0 (omega arith)))
    (λ f. rw (e, f, ne_eqb kind 3 ne)))

-- without a rule just what differs
apart_some : (x y : ℕ) → leb 1 (2 * distance x y) ≡ not (eqb x y)
unfolding distance
apart_some x y = bool (eqb x y)
    (λ e. let q = eqb-true x y e in rw e (lt-leb 1 (2 * distance x y) (omega arith)))
    (λ e. let q = eqb-false x y e in rw e (le-leb 1 (2 * distance x y) (omega (arith, q))))

pub without_allowed : (x y : ℕ) → zero_or_more (spare_without (distance x y)) ≡ not (eqb x y)
unfolding spare_without
without_allowed x y = sub_allowed (2 * distance x y) 1 ∙ apart_some x y

-- the range

pub sub_range : (a b : ℕ) → b ≤ a + 20039998 → a ≤ b + 19999995 → in_range (sub_ℕ a b) ≡ true
unfolding in_range
sub_range a b f g = bool (ltb a b)
    (λ e. let l = ltb-true a b e in rw e (and_in (le-leb (b - suc a) 20039997 (omega arith)) refl))
    (λ e. let l = ltb-false a b e in rw e (le-leb (a - b) 19999995 (omega arith)))

-- what is in it is an `i32`
pub range_fits : (z : ℤ) → in_range z ≡ true → SFits w32 z
unfolding in_range
range_fits (pos n) h = record { sfits = let l = leb-true n 19999995 h in omega arith }
range_fits (negsuc n) h = record { sfits = let l = leb-true n 20039997 (and_l (leb n 20039997) true h) in omega arith }

-- a rule whose value, if it has no list, is 1 to 9,999,999, of frequencies of that range
pub by_range : (kind value w d : ℕ) (l : Bool) → ((kind ≡ 3 → ⊥) → (0 < value) × (value ≤ 9999999)) → w ≤ 40000
    → d ≤ 9999998 → in_range (spare_by kind value w d l) ≡ true
unfolding spare_by distance
by_range kind value w d l f g h = bool (eqb kind 1)
    (λ e. let q = eqb-true kind 1 e in let z = f (λ p. omega arith) in
    rw e (sub_range (2 * d) (2 * value + w) (omega arith) (omega arith)))
    (λ e. bool (eqb kind 2)
    (λ i. let q = eqb-true kind 2 i in let z = f (λ p. omega arith) in
    rw (e, i) (sub_range 0 (2 * distance d value) (omega arith) (omega arith)))
    (λ i. rw (e, i) (last (eqb kind 3 && l))))
  where
    last : (b : Bool) → in_range (cond b (pos 0) (negsuc 0)) ≡ true
    last true = sub_range 0 0 (omega arith) (omega arith)
    last false = sub_range 0 1 (omega arith) (omega arith)
