-- Of k links at most 64, there are at most 2,016 pairs.
use mathlib.Core.Path.{◌≡◌, refl, ap, ◌∙◌}
use mathlib.Core.Bool.{Bool, true, false, not}
use mathlib.Core.List.{List}
use Prim.Native.Nat.{ℕ, zero, suc, ◌+◌, ◌-◌, ◌*◌, ◌/◌, ◌%◌, ◌≤◌}
use native.Mathlib.Nat.{mul_comm, mul-suc}
use native.Mathlib.Omega.{arith}
use lib.Dec.{ltb}
use lib.ListN.{length}
use borrow.Author.Tests.{ltb-true, ltb-false}
use Rattle.sets.specs.Below.{one, count, sum_to}
use Rattle.sets.proofs.Tests.{bool, below, and_l}
use Rattle.sets.proofs.Below.{count_add, count_same, count_mono}
use Rattle.rule_sections.specs.Rules.{most_rules}
use Rattle.dimacs.specs.Made.{is_ruled, is_full, rule_total}
use Rattle.dimacs.proofs.Codes.{code_first, code_second}
use Rattle.dimacs.proofs.Accepts.{rule_count_lem, Small}

sum_up : (a b : ℕ) (f : ℕ → ℕ) → a ≤ b → sum_to a f ≤ sum_to b f
unfolding sum_to
sum_up a zero f h = let e : a ≡ 0 = omega arith in rw e (omega arith)
sum_up a (suc b) f h = below a (suc b) (omega arith) (λ l. let r = sum_up a b f (omega arith) in omega arith)
    (λ e. rw e (omega arith))

sum_mono : (m : ℕ) (f g : ℕ → ℕ) → ((i : ℕ) → f i ≤ g i) → sum_to m f ≤ sum_to m g
unfolding sum_to
sum_mono zero f g h = omega arith
sum_mono (suc m) f g h = omega (arith, sum_mono m f g h, h m)

-- the numbers below m and above a
above : (a m : ℕ) → count m (λ i. ltb a i) ≤ m - (a + 1)
unfolding count
above a zero = omega arith
above a (suc m) = let r = above a m in bool (ltb a m)
    (λ e. let h = ltb-true a m e in let x : one (ltb a m) ≡ 1 = rw e refl in omega arith)
    (λ e. let h = ltb-false a m e in let x : one (ltb a m) ≡ 0 = rw e refl in omega arith)

-- the pairs x < y < k with x < a
pairs_below : (k a : ℕ) → count (a * k) (λ z. ltb (z / k) (z % k)) ≤ sum_to a (λ i. k - (i + 1))
unfolding sum_to count
pairs_below k zero = let e : 0 * k ≡ 0 = omega arith in rw e (omega arith)
pairs_below k (suc a) =
    let e : suc a * k ≡ a * k + k = mul_comm (suc a) k ∙ mul-suc k a ∙ ap (λ x. x + k) (mul_comm k a) in
    let p : ℕ → Bool = λ z. ltb (z / k) (z % k) in
    let c = count_add (a * k) k p in
    let s = count_same k (λ i. p (a * k + i)) (λ i. ltb a i) (λ i h. rw (code_first k a i h, code_second k a i h)) in
    let r = pairs_below k a in
    let u = above a k in
    rw e (omega arith)

most_pairs_lem : (k : ℕ) → k ≤ 64 → sum_to k (λ i. k - (i + 1)) ≤ 2016
unfolding sum_to
most_pairs_lem k h =
    let a = sum_mono k (λ i. k - (i + 1)) (λ i. 64 - (i + 1)) (λ i. omega arith) in
    let b = sum_up k 64 (λ i. 64 - (i + 1)) h in
    omega arith

pub rules_few : (cs : List ℕ) (adj : ℕ → ℕ → Bool) → Small cs → rule_total cs adj ≤ most_rules
unfolding is_ruled
rules_few cs adj S =
    let k = length cs in
    let a = rule_count_lem cs adj S in
    let b = count_mono (k * k) (is_ruled cs adj) (λ z. ltb (z / k) (z % k))
    (λ z h t. and_l (ltb (z / k) (z % k)) (not (is_full cs adj (z / k) (z % k))) t) in
    omega (arith, pairs_below k k, most_pairs_lem k S.links_few)
