-- Codes of pairs: of numbers x and y < m, x * m + y, which rises as the pair does.
use mathlib.Core.Path.{◌≡◌, refl, sym, ap, ◌∙◌}
use mathlib.Core.Bool.{Bool, true}
use Prim.Native.Nat.{ℕ, zero, suc, ◌+◌, ◌*◌, ◌/◌, ◌%◌, ◌<◌}
use native.Mathlib.Nat.{div-add-mod, mod-lt, mod-eq_of_lt, div-eq_of_lt, mul-le-mul_left, mul-le-mul_right, mul_comm}
use native.Mathlib.Nat.{mul-suc, mul-add-div_right, mul-add-mod_self_right, div-lt_iff_lt-mul}
use native.Mathlib.Omega.{arith}
use lib.Dec.{ltb}
use borrow.Author.Tests.{lt-ltb, eq-eqb, ltb-false}
use Rattle.sets.specs.Below.{sum_to, count}
use Rattle.sets.proofs.Tests.{bool, and_in, or_l, or_r}
use Rattle.sets.proofs.Below.{count_same, count_add}
use Rattle.rule_sections.specs.Rules.{before}

-- the parts of a code
pub code_first : (m x y : ℕ) → y < m → (x * m + y) / m ≡ x
code_first m x y h = mul-add-div_right (omega arith) x y ∙ rw (div-eq_of_lt h) (omega arith)

pub code_second : (m x y : ℕ) → y < m → (x * m + y) % m ≡ y
code_second m x y h = mul-add-mod_self_right x m y ∙ mod-eq_of_lt h

pub code_back : (m z : ℕ) → z / m * m + z % m ≡ z
code_back m z = ap (λ x. x + z % m) (mul_comm (z / m) m) ∙ div-add-mod z m

-- the codes of one more x
pub row_after : (x m : ℕ) → suc x * m ≡ x * m + m
row_after x m = mul_comm (suc x) m ∙ mul-suc m x ∙ ap (λ i. i + m) (mul_comm m x)

pub code_lt : (l m x y : ℕ) → x < l → y < m → x * m + y < l * m
code_lt l m x y h g = let r = mul-le-mul_right m h in let e = row_after x m in omega arith

pub first_lt : (l m z : ℕ) → z < l * m → z / m < l
first_lt l zero z h = let e : l * 0 ≡ 0 = omega arith in absurd (omega arith)
first_lt l (suc m) z h = (div-lt_iff_lt-mul {k = suc m} {x = z} {y = l} (omega arith)).1 h

pub second_lt : (l m z : ℕ) → z < l * m → z % m < m
second_lt l zero z h = let e : l * 0 ≡ 0 = omega arith in absurd (omega arith)
second_lt l (suc m) z h = mod-lt z (omega arith)

-- a lower code is an earlier pair
pub code_before : (m x y : ℕ) → 0 < m → x < y → before (x / m) (x % m) (y / m) (y % m) ≡ true
unfolding before
code_before m x y o h = bool (ltb (x / m) (y / m)) (λ e. or_l _ e)
    (λ e. let g = ltb-false (x / m) (y / m) e in let r = mul-le-mul_left m g in let a = div-add-mod x m in let b =
    div-add-mod y m in
    let c = mod-lt y o in
    let d : y / m < x / m → ⊥ = λ i. let r = mul-le-mul_left m i in let s = mul-suc m (y / m) in omega arith in
    let q : x / m ≡ y / m = omega arith in
    let p : m * (x / m) ≡ m * (y / m) = ap (λ i. m * i) q in
    let l : x % m < y % m = omega arith in
    or_r (ltb (x / m) (y / m)) (and_in (eq-eqb _ _ q) (lt-ltb _ _ l)))

-- the codes that pass, row by row
pub count_rows : (l m : ℕ) (p : ℕ → Bool) (r : ℕ → ℕ → Bool) → ((x y : ℕ) → y < m → p (x * m + y) ≡ r x y)
    → sum_to l (λ x. count m (r x)) ≡ count (l * m) p
unfolding sum_to count
count_rows zero m p r h = let e : 0 * m ≡ 0 = omega arith in rw e refl
count_rows (suc l) m p r h =
    rw (row_after l m)
    (ap (λ i. i + count m (r l)) (count_rows l m p r h)
    ∙ ap (λ i. count (l * m) p + i) (sym (count_same m (λ y. p (l * m + y)) (r l) (h l)))
    ∙ sym (count_add (l * m) m p))
