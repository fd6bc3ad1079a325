-- How many members a set has: word by word, and member by member.
use Rattle.std.proofs.Common.{ℕ, zero, suc, ◌+◌, ◌-◌, ◌*◌, ◌/◌, ◌%◌, ◌^◌, ◌≤◌, ◌<◌, true, ◌⊎◌, inl, inr, ◌≡◌, sym, ap, ◌∙◌, pow-suc, one-add, add-one, arith}
use lib.Arith.{lt-one}
use lib.Count.{ones, ones_step}
use Rattle.sets.specs.Below.{count}
use Rattle.sets.specs.Sets.{Set}
use Rattle.sets.proofs.Tests.{clash}
use Rattle.sets.proofs.Below.{count_same, count_add, count_le, count_none}
use Rattle.vset.specs.Words.{bit, None}
use Rattle.vset.proofs.Bits.{bit_zero, bit_suc, low}
use Rattle.vset.proofs.Words.{Word}

-- the set bits of a word of n bits
count_low : (w : ℕ) → count 1 (bit w) ≡ w % 2
unfolding count
count_low w = go (low w)
  where
    go : (w % 2 ≡ 0) ⊎ (w % 2 ≡ 1) → count 1 (bit w) ≡ w % 2
    go (inl e) = rw (bit_zero, e)
    go (inr e) = rw (bit_zero, e)

count_high : (n w : ℕ) → count n (λ k. bit w (1 + k)) ≡ count n (bit (w / 2))
count_high n w = count_same n (λ k. bit w (1 + k)) (bit (w / 2)) (λ k l. ap (bit w) (one-add k) ∙ bit_suc w k)

pub count_bits : (n w : ℕ) → w < 2 ^ n → count n (bit w) ≡ ones w
unfolding count ones
count_bits zero w h = rw (lt-one h)
count_bits (suc n) w h =
    ap (λ (m : ℕ). count m (bit w)) (sym (one-add n))
    ∙ omega (
      arith,
      count_add 1 n (bit w),
      count_low w,
      count_high n w,
      count_bits n (w / 2) (omega (arith, pow-suc 2 n)),
      ones_step w,
    )

-- one word more
pub count_word : {S : Set} {i x : ℕ} → Word S i x → x < 2 ^ 64 → count (64 * (i + 1)) S ≡ count (64 * i) S + ones x
count_word {S} {i} {x} W h =
    let e : 64 * (i + 1) ≡ 64 * i + 64 = omega arith in
    rw (e, count_add, count_same 64 (λ k. S (64 * i + k)) (bit x) W.at, count_bits 64 x h)

-- a loop that counts word by word: one turn
pub record Counted (S : Set) (i x n : ℕ) : Type 0 where
  pub more : n + ones x ≡ count (64 * (i + 1)) S
  pub bound : n + ones x ≤ 64 * (i + 1)

pub counted : {S : Set} {i x : ℕ} (n : ℕ) → Word S i x → x < 2 ^ 64 → n ≡ count (64 * i) S → Counted S i x n
counted {S} {i} {x} n W h e =
    let m : n + ones x ≡ count (64 * (i + 1)) S = omega (arith, count_word W h) in
    record { more = m; bound = omega (arith, count_le (64 * (i + 1)) S) }

-- nothing from a up to b
pub count_gap : (S : Set) (a b : ℕ) → a ≤ b → None S a b → count b S ≡ count a S
count_gap S a b l h =
    let e : b ≡ a + (b - a) = omega arith in
    let z = count_none (b - a) (λ k. S (a + k)) (λ k m t. clash (S (a + k)) t (h (a + k) (omega arith) (omega arith))) in
    ap (λ (m : ℕ). count m S) e ∙ count_add a (b - a) S ∙ omega (arith, z)

-- one member more
pub count_next : (S : Set) (n : ℕ) → S n ≡ true → count (n + 1) S ≡ count n S + 1
unfolding count
count_next S n e = rw (add-one, e) (omega arith)
