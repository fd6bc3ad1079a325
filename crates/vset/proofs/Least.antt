-- Where a set has a member: in a word, from a vertex on, or nowhere.
use Rattle.std.proofs.Common.{ℕ, ◌+◌, ◌-◌, ◌*◌, ◌/◌, ◌^◌, ◌≤◌, ◌<◌, true, false, true≢false, ◌≡◌, sym, ap, ◌∙◌, add_assoc, add-zero, div-one, lt_of_le_of_lt, arith}
use native.Mathlib.Decide.{dec_lt}
use lib.Count.{count_trailing_zeros}
use Rattle.std.proofs.Math.Pow.{shr_le}
use Rattle.sets.specs.Sets.{Set}
use Rattle.vset.specs.Words.{bit, None, Least}
use Rattle.vset.proofs.Bits.{bit_none, bit_shr, bit_high, trailing_below, trailing_at, trailing_lt}
use Rattle.vset.proofs.Words.{Ends, Word}

-- a member in a word

module _ {S : Set} {i x : ℕ} (W : Word S i x) where
  pub word_some : x < 2 ^ 64 → (x ≡ 0 → ⊥) → (v : ℕ) × (S v ≡ true)
  word_some b ne =
      let l = trailing_lt 64 x b ne in
      (64 * i + count_trailing_zeros 64 x, W.at (count_trailing_zeros 64 x) l ∙ trailing_at 64 x l)

  -- from bit k on
  module _ (k : ℕ) where
    word_shr : (j : ℕ) → k + j < 64 → S (64 * i + k + j) ≡ bit (x / 2 ^ k) j
    word_shr j h = rw (add_assoc, W.at (k + j) h, bit_shr)

    pub none_in : x / 2 ^ k ≡ 0 → None S (64 * i + k) (64 * (i + 1))
    none_in e v l h =
        let j = v - (64 * i + k) in
        let q : v ≡ 64 * i + k + j = omega arith in
        ap S q ∙ word_shr j (omega arith) ∙ ap (λ (w : ℕ). bit w j) e ∙ bit_none j

    pub least_in : (n : ℕ) → i < n → x < 2 ^ 64 → (x / 2 ^ k ≡ 0 → ⊥)
        → Least S (64 * i + k) (64 * n) (64 * i + k + count_trailing_zeros 64 (x / 2 ^ k))
    least_in n h b ne = record {
      after = omega arith;
      within = omega (arith, small);
      none = before;
      found = λ m. word_shr t small ∙ set_at;
    }
      where
        w : ℕ
        w = x / 2 ^ k

        t : ℕ
        t = count_trailing_zeros 64 w

        set_at : bit w t ≡ true
        set_at = trailing_at 64 w (trailing_lt 64 w (lt_of_le_of_lt (shr_le x k) b) ne)

        small : k + t < 64
        small = go (dec_lt (k + t) 64)
          where
            go : Dec (k + t < 64) → k + t < 64
            go (yes l) = l
            go (no n) = absurd (true≢false (sym set_at ∙ bit_shr x k t ∙ bit_high 64 x (k + t) b (omega arith)))

        before : None S (64 * i + k) (64 * i + k + t)
        before v l m =
            let j = v - (64 * i + k) in
            let q : v ≡ 64 * i + k + j = omega arith in
            ap S q ∙ word_shr j (omega (arith, small)) ∙ trailing_below 64 w j (omega arith)

  -- from its start on
  pub none_word : x ≡ 0 → None S (64 * i) (64 * (i + 1))
  none_word e v l h = none_in 0 (simp div-one e) v (omega arith) h

  pub least_word : (n : ℕ) → i < n → x < 2 ^ 64 → (x ≡ 0 → ⊥) → Least S (64 * i) (64 * n) (64 * i + count_trailing_zeros 64 x)
  least_word n h b ne = simp (add-zero, div-one) at (least_in 0 n h b (λ e. ne (simp div-one at e)))

-- what is empty up to b and from b on is empty
pub none_join : (S : Set) (a b c : ℕ) → None S a b → None S b c → None S a c
none_join S a b c p q v l h = go (dec_lt v b)
  where
    go : Dec (v < b) → S v ≡ false
    go (yes m) = p v l m
    go (no m) = q v (omega arith) h

-- nothing up to n, and nothing from n on
pub none_all : {S : Set} {n : ℕ} → None S 0 n → Ends S n → (v : ℕ) → S v ≡ false
none_all {S} {n} p q v = go (dec_lt v n)
  where
    go : Dec (v < n) → S v ≡ false
    go (yes m) = p v (omega arith) m
    go (no m) = q.past v (omega arith)

-- nothing from `from` to `here`: the least member from `here` on is the least from `from` on
pub least_from : {S : Set} {here n r : ℕ} (from : ℕ) → from ≤ here → None S from here → Least S here n r
    → Least S from n r
least_from {S} {here} {n} {r} from l h L = record {
  after = omega arith;
  within = L.within;
  none = none_join S from here r h L.none;
  found = L.found;
}

-- nothing from `from` to n, which is then what is found
pub least_none : {S : Set} {from n : ℕ} → from ≤ n → None S from n → Least S from n n
least_none l h = record { after = l; within = omega arith; none = h; found = λ m. absurd (omega arith) }
