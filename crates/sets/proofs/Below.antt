-- Laws of tests, sums and searches below a bound, and what a loop over them owes at each place.
use mathlib.Core.Path.{◌≡◌, refl, sym, ◌∙◌}
use mathlib.Core.Bool.{Bool, true, false, not, ◌&&◌, ◌||◌}
use mathlib.Core.Logic.{◌⊎◌, inl, inr}
use Prim.Native.Nat.{ℕ, zero, suc, ◌+◌, ◌-◌, ◌≤◌, ◌<◌}
use native.Mathlib.Nat.{add-zero, add-suc}
use native.Mathlib.Numerals.{add-one}
use native.Mathlib.Omega.{arith}
use borrow.Author.Tests.{not-true, not-false, eqb-true, eq-eqb, lt-ltb, le-ltb, leb-true, leb-false}
use lib.Dec.{eqb, ltb, leb}
use Rattle.sets.specs.Below.{all, any, first, sum_to, one, count, loop, replace}
use Rattle.sets.proofs.Tests.{clash, bool, case, is_false, iff, and_l, and_r, and_in, or_l, or_r, or_case, below}

-- all

pub all_in : (m : ℕ) (p : ℕ → Bool) → ((i : ℕ) → i < m → p i ≡ true) → all m p ≡ true
unfolding all
all_in zero p f = refl
all_in (suc m) p f = and_in (all_in m p (λ i h. f i (omega arith))) (f m (omega arith))

pub all_out : (m : ℕ) (p : ℕ → Bool) → all m p ≡ true → (i : ℕ) → i < m → p i ≡ true
unfolding all
all_out zero p h i l = absurd (omega arith)
all_out (suc m) p h i l = below i m l (all_out m p (and_l (all m p) (p m) h) i) (λ q. rw q (and_r (all m p) (p m) h))

-- one failure below the bound
pub all_false : (m : ℕ) (p : ℕ → Bool) (i : ℕ) → i < m → p i ≡ false → all m p ≡ false
all_false m p i l e = is_false (all m p) (λ h. clash (p i) (all_out m p h i l) e)

pub all_same : (m : ℕ) (p q : ℕ → Bool) → ((i : ℕ) → i < m → p i ≡ q i) → all m p ≡ all m q
unfolding all
all_same zero p q f = refl
all_same (suc m) p q f = rw (all_same m p q (λ i h. f i (omega arith)), f m (omega arith))

pub all_none : (p : ℕ → Bool) → all 0 p ≡ true
unfolding all
all_none p = refl

pub all_step : (m : ℕ) (p : ℕ → Bool) → all (m + 1) p ≡ all m p && p m
unfolding all
all_step m p = rw add-one

-- the loop `while i < m { if !r { return false; } i += 1; } true`, where r is p at i
pub loop_goes_on : (i : ℕ) (p : ℕ → Bool) (r : Bool) → all i p ≡ true → r ≡ p i → not r ≡ false → all (i + 1) p ≡ true
loop_goes_on i p r h e n = rw all_step (and_in h (sym e ∙ not-false r n))

pub loop_stops : (m i : ℕ) (p : ℕ → Bool) (r : Bool) → i < m → r ≡ p i → not r ≡ true → all m p ≡ false
loop_stops m i p r l e n = all_false m p i l (sym e ∙ not-true r n)

pub loop_ends : (m i : ℕ) (p : ℕ → Bool) → i ≤ m → m ≤ i → all i p ≡ true → all m p ≡ true
loop_ends m i p h g e = let q : m ≡ i = omega arith in rw q e

-- any

pub any_in : (m : ℕ) (p : ℕ → Bool) (i : ℕ) → i < m → p i ≡ true → any m p ≡ true
unfolding any
any_in zero p i h e = absurd (omega arith)
any_in (suc m) p i h e = below i m h (λ l. or_l (p m) (any_in m p i l e)) (λ q. or_r (any m p) (rw q at e))

pub any_no : (m : ℕ) (p : ℕ → Bool) → any m p ≡ false → (i : ℕ) → i < m → p i ≡ true → ⊥
any_no m p e i h t = clash (any m p) (any_in m p i h t) e

pub any_none : (p : ℕ → Bool) → any 0 p ≡ false
unfolding any
any_none p = refl

-- the loop `while i < m { if r { return true; } i += 1; } false`, where r is p at i
pub any_goes_on : (i : ℕ) (p : ℕ → Bool) (r : Bool) → any i p ≡ false → r ≡ p i → r ≡ false → any (i + 1) p ≡ false
unfolding any
any_goes_on i p r h e n = rw (add-one, h, ← e, n)

pub any_stops : (m i : ℕ) (p : ℕ → Bool) (r : Bool) → i < m → r ≡ p i → r ≡ true → any m p ≡ true
any_stops m i p r l e n = any_in m p i l (sym e ∙ n)

pub any_ends : (m i : ℕ) (p : ℕ → Bool) → i ≤ m → m ≤ i → any i p ≡ false → any m p ≡ false
any_ends m i p h g e = let q : m ≡ i = omega arith in rw q e

-- first

-- where the test holds somewhere, the first number is one of those
pub first_lt : (m : ℕ) (p : ℕ → Bool) → any m p ≡ true → first m p < m
unfolding any first
first_lt zero p h = clash false h refl
first_lt (suc m) p h = case (λ x. x < suc m) (any m p) _ _ (λ e. let r = first_lt m p e in omega arith)
    (λ e. case (λ x. x < suc m) (p m) m (suc m) (λ t. omega arith) (λ t. last (or_case (any m p) (p m) h) e t))
  where
    last : (any m p ≡ true) ⊎ (p m ≡ true) → any m p ≡ false → p m ≡ false → suc m < suc m
    last (inl a) e t = clash (any m p) a e
    last (inr b) e t = clash (p m) b t

pub first_is : (m : ℕ) (p : ℕ → Bool) → any m p ≡ true → p (first m p) ≡ true
unfolding any first
first_is zero p h = clash false h refl
first_is (suc m) p h = case (λ x. p x ≡ true) (any m p) _ _ (λ e. first_is m p e)
    (λ e. case (λ x. p x ≡ true) (p m) m (suc m) (λ t. t) (λ t. last (or_case (any m p) (p m) h) e t))
  where
    last : (any m p ≡ true) ⊎ (p m ≡ true) → any m p ≡ false → p m ≡ false → p (suc m) ≡ true
    last (inl a) e t = clash (any m p) a e
    last (inr b) e t = clash (p m) b t

-- and none is lower
pub first_least : (m : ℕ) (p : ℕ → Bool) (i : ℕ) → i < first m p → p i ≡ false
unfolding first
first_least zero p i = λ h. absurd (omega arith)
first_least (suc m) p i = case (λ x. i < x → p i ≡ false) (any m p) _ _ (λ e. first_least m p i)
    (λ e. case (λ x. i < x → p i ≡ false) (p m) m (suc m) (λ t l. is_false (p i) (any_no m p e i l))
    (λ t l. is_false (p i) (below i m l (any_no m p e i) (λ q s. clash (p m) (rw q at s) t))))

-- the first number is the one that passes with none lower
pub first_found : (m i : ℕ) (p : ℕ → Bool) → i < m → any i p ≡ false → p i ≡ true → first m p ≡ i
first_found m i p l e t =
    let a = any_in m p i l t in
    let x : first m p < i → ⊥ = λ h. any_no i p e (first m p) h (first_is m p a) in
    let y : i < first m p → ⊥ = λ h. clash (p i) t (first_least m p i h) in
    omega arith

pub first_none : (m : ℕ) (p : ℕ → Bool) → any m p ≡ false → first m p ≡ m
unfolding first any
first_none zero p h = refl
first_none (suc m) p h = case (λ x. x ≡ suc m) (any m p) _ _ (λ e. clash (any m p || p m) (or_l (p m) e) h)
    (λ e. case (λ x. x ≡ suc m) (p m) m (suc m) (λ t. clash (any m p || p m) (or_r (any m p) t) h) (λ t. refl))

-- the first number that passes is below the bound just where some number passes
pub first_any : (m : ℕ) (p : ℕ → Bool) → ltb (first m p) m ≡ any m p
first_any m p = bool (any m p) (λ e. lt-ltb _ _ (first_lt m p e) ∙ sym e)
    (λ e. rw (first_none m p e) (le-ltb m m (omega arith)) ∙ sym e)

pub any_mono : (m : ℕ) (p q : ℕ → Bool) → ((i : ℕ) → i < m → p i ≡ true → q i ≡ true) → any m p ≡ true → any m q ≡ true
any_mono m p q f h = any_in m q (first m p) (first_lt m p h) (f (first m p) (first_lt m p h) (first_is m p h))

pub any_same : (m : ℕ) (p q : ℕ → Bool) → ((i : ℕ) → i < m → p i ≡ q i) → any m p ≡ any m q
any_same m p q f = iff _ _ (any_mono m p q (λ i l t. sym (f i l) ∙ t)) (any_mono m q p (λ i l t. f i l ∙ t))

pub first_same : (m : ℕ) (p q : ℕ → Bool) → ((i : ℕ) → i < m → p i ≡ q i) → first m p ≡ first m q
first_same m p q f = bool (any m q)
    (λ t. let l = first_lt m q t in first_found m (first m q) p l
    (is_false (any (first m q) p) (λ u. let i = first (first m q) p in let h = first_lt (first m q) p u in
    clash (p i) (first_is (first m q) p u) (f i (omega arith) ∙ first_least m q i h)))
    (f (first m q) l ∙ first_is m q t))
    (λ t. first_none m p (any_same m p q f ∙ t) ∙ sym (first_none m q t))

-- sums

pub sum_none : (f : ℕ → ℕ) → sum_to 0 f ≡ 0
unfolding sum_to
sum_none f = refl

pub sum_more : (m : ℕ) (f : ℕ → ℕ) → sum_to (m + 1) f ≡ sum_to m f + f m
unfolding sum_to
sum_more m f = rw add-one

-- a part of a sum is within it
pub sum_in : (m i : ℕ) (f : ℕ → ℕ) → i < m → sum_to i f + f i ≤ sum_to m f
unfolding sum_to
sum_in zero i f h = absurd (omega arith)
sum_in (suc m) i f h = below i m h (λ l. omega (arith, sum_in m i f l)) (λ q. rw q (omega arith))

pub sum_same : (m : ℕ) (f g : ℕ → ℕ) → ((i : ℕ) → i < m → f i ≡ g i) → sum_to m f ≡ sum_to m g
unfolding sum_to
sum_same zero f g h = refl
sum_same (suc m) f g h = rw (sum_same m f g (λ i l. h i (omega arith)), h m (omega arith))

pub sum_zero : (m : ℕ) (f : ℕ → ℕ) → ((i : ℕ) → i < m → f i ≡ 0) → sum_to m f ≡ 0
unfolding sum_to
sum_zero zero f h = refl
sum_zero (suc m) f h = rw (sum_zero m f (λ i l. h i (omega arith)), h m (omega arith)) refl

pub sum_both : (m : ℕ) (f g : ℕ → ℕ) → sum_to m (λ i. f i + g i) ≡ sum_to m f + sum_to m g
unfolding sum_to
sum_both zero f g = refl
sum_both (suc m) f g = omega (arith, sum_both m f g)

pub sum_swap : (m n : ℕ) (h : ℕ → ℕ → ℕ) → sum_to m (λ i. sum_to n (h i)) ≡ sum_to n (λ j. sum_to m (λ i. h i j))
unfolding sum_to
sum_swap zero n h = sym (sum_zero n (λ j. 0) (λ i l. refl))
sum_swap (suc m) n h = let r = sum_swap m n h in let s = sum_both n (λ j. sum_to m (λ i. h i j)) (h m) in omega arith

pub sum_mono : (m : ℕ) (f g : ℕ → ℕ) → ((i : ℕ) → i < m → f i ≤ g i) → sum_to m f ≤ sum_to m g
unfolding sum_to
sum_mono zero f g h = omega arith
sum_mono (suc m) f g h = let r = sum_mono m f g (λ i l. h i (omega arith)) in let q = h m (omega arith) in omega arith

-- one of the numbers, and the others
pub sum_without : (m i : ℕ) (f g : ℕ → ℕ) → i < m → g i ≡ 0 → ((j : ℕ) → j < m → (j ≡ i → ⊥) → f j ≡ g j)
    → sum_to m f ≡ f i + sum_to m g
unfolding sum_to
sum_without zero i f g l z h = absurd (omega arith)
sum_without (suc m) i f g l z h = below i m l
    (λ a. let r = sum_without m i f g a z (λ j b. h j (omega arith)) in let q = h m (omega arith) (λ e. omega arith) in
    omega arith)
    (λ e. let r = sum_same m f g (λ j b. h j (omega arith) (λ q. omega arith)) in let q : g m ≡ 0 = rw e at z in
    rw e (omega arith))

-- counts

pub one_mono : (a b : Bool) → (a ≡ true → b ≡ true) → one a ≤ one b
one_mono true b f = rw (f refl) (omega arith)
one_mono false b f = omega arith

pub count_same : (m : ℕ) (p q : ℕ → Bool) → ((i : ℕ) → i < m → p i ≡ q i) → count m p ≡ count m q
unfolding count
count_same zero p q h = refl
count_same (suc m) p q h = rw (h m (omega arith), count_same m p q (λ i l. h i (omega arith)))

pub count_add : (a b : ℕ) (p : ℕ → Bool) → count (a + b) p ≡ count a p + count b (λ i. p (a + i))
unfolding count
count_add a zero p = simp add-zero
count_add a (suc b) p = rw add-suc (omega (arith, count_add a b p))

pub count_le : (m : ℕ) (p : ℕ → Bool) → count m p ≤ m
unfolding count
count_le zero p = omega arith
count_le (suc m) p = let a = count_le m p in let b = one_mono (p m) true (λ _. refl) in omega arith

pub count_mono : (m : ℕ) (p q : ℕ → Bool) → ((i : ℕ) → i < m → p i ≡ true → q i ≡ true) → count m p ≤ count m q
unfolding count
count_mono zero p q f = omega arith
count_mono (suc m) p q f = let a = count_mono m p q (λ i h. f i (omega arith)) in
    let b = one_mono (p m) (q m) (f m (omega arith)) in omega arith

-- a set with a member less counts less
pub count_less : (m : ℕ) (p q : ℕ → Bool) → ((i : ℕ) → i < m → p i ≡ true → q i ≡ true)
    → (i : ℕ) → i < m → p i ≡ false → q i ≡ true → count m p < count m q
unfolding count
count_less zero p q f i h a b = absurd (omega arith)
count_less (suc m) p q f i h a b = below i m h
    (λ l. let r = count_less m p q (λ j h. f j (omega arith)) i l a b in
    let b = one_mono (p m) (q m) (f m (omega arith)) in omega arith)
    (λ e. let r = count_mono m p q (λ j h. f j (omega arith)) in
    let u : one (p m) ≡ 0 = rw (← e, a) refl in let w : one (q m) ≡ 1 = rw (← e, b) refl in omega arith)

pub count_pos : (m : ℕ) (p : ℕ → Bool) (i : ℕ) → i < m → p i ≡ true → 0 < count m p
count_pos m p i h e = let r = count_less m (λ _. false) p (λ j h x. clash false x refl) i h refl e in omega arith

pub count_none : (m : ℕ) (p : ℕ → Bool) → ((i : ℕ) → i < m → p i ≡ true → ⊥) → count m p ≡ 0
unfolding count
count_none zero p f = refl
count_none (suc m) p f = rw (is_false (p m) (f m (omega arith)), count_none m p (λ i l. f i (omega arith))) refl

pub count_any : (m : ℕ) (p : ℕ → Bool) → 0 < count m p → any m p ≡ true
count_any m p h = bool (any m p) (λ e. e) (λ e. absurd (omega (arith, count_none m p (any_no m p e))))

-- a set within m numbers from a on has at most m members
pub count_within : (n a m : ℕ) (p : ℕ → Bool) → ((v : ℕ) → v < n → p v ≡ true → (a ≤ v) × (v < a + m))
    → (count n p ≤ m) × (count n p ≤ n - a)
unfolding count
count_within zero a m p h = (omega arith, omega arith)
count_within (suc n) a m p h =
    let r = count_within n a m p (λ v l. h v (omega arith)) in
    bool (p n)
    (λ e. let w = h n (omega arith) e in let o : one (p n) ≡ 1 = rw e refl in (omega arith, omega arith))
    (λ e. let o : one (p n) ≡ 0 = rw e refl in (omega arith, omega arith))

-- a set with all of these numbers has at least m
count_least : (n a m : ℕ) (p : ℕ → Bool) → a + m ≤ n → ((v : ℕ) → a ≤ v → v < a + m → p v ≡ true)
    → m ≤ count n p
unfolding count
count_least zero a m p l h = omega arith
count_least (suc n) a zero p l h = omega arith
count_least (suc n) a (suc m) p l h = bool (leb (a + suc m) n)
    (λ e. omega (arith, count_least n a (suc m) p (leb-true (a + suc m) n e) h))
    (λ e. let g = leb-false (a + suc m) n e in
    let o : one (p n) ≡ 1 = rw (h n (omega arith) (omega arith)) refl in
    omega (arith, count_least n a m p (omega arith) (λ v b c. h v b (omega arith))))

-- just m
pub count_just : (n a m : ℕ) (p : ℕ → Bool) → a + m ≤ n
    → ((v : ℕ) → v < n → p v ≡ true → (a ≤ v) × (v < a + m)) → ((v : ℕ) → a ≤ v → v < a + m → p v ≡ true)
    → count n p ≡ m
count_just n a m p l h g = omega (arith, (count_within n a m p h).0, count_least n a m p l g)

-- loops

pub loop_none : {A : Type 0} (f : ℕ → A → A) (a : A) → loop 0 f a ≡ a
unfolding loop
loop_none f a = refl

pub loop_more : {A : Type 0} (m : ℕ) (f : ℕ → A → A) (a : A) → loop (m + 1) f a ≡ f m (loop m f a)
unfolding loop
loop_more m f a = rw add-one

-- what each turn keeps, the loop keeps
pub loop_keeps : {A : Type 0} (P : A → Type 0) (m : ℕ) (f : ℕ → A → A) → ((i : ℕ) → i < m → (a : A) → P a → P (f i a))
    → (a : A) → P a → P (loop m f a)
unfolding loop
loop_keeps P zero f h a p = p
loop_keeps P (suc m) f h a p = h m (omega arith) (loop m f a) (loop_keeps P m f (λ i l. h i (omega arith)) a p)

-- replaced entries

pub replace_same : (d v : ℕ) (f : ℕ → ℕ) → replace d v f d ≡ v
unfolding replace
replace_same d v f = rw (eq-eqb d d refl, replace) refl

pub replace_other : (d v : ℕ) (f : ℕ → ℕ) (j : ℕ) → (j ≡ d → ⊥) → replace d v f j ≡ f j
unfolding replace
replace_other d v f j h = rw (is_false (eqb j d) (λ e. h (eqb-true j d e)), replace) refl
