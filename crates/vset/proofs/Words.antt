-- Laws of the set that a row of words keeps. `Word S i x` says that the word x keeps part i of S, the vertices from 64
-- * i to 64 * i + 63, whatever row or operation x comes from, and every law below goes through it.
use Rattle.std.proofs.Common.{ℕ, ◌+◌, ◌-◌, ◌*◌, ◌/◌, ◌%◌, ◌^◌, ◌≤◌, ◌<◌, false, List, ◌≡◌, refl, sym, ap, ◌∙◌, one-mul, arith, eq-eqb, ne_eqb, eqb, shl_exact, length, get_or, set, get_or-set_same, get_or-set_other}
use mathlib.Core.Path.{fun_ext}
use native.Mathlib.Decide.{ℕ_discrete, dec_lt}
use Rattle.std.proofs.Math.Pow.{pow-lt}
use lib.Bits.{bit_and, bit_or}
use Rattle.std.proofs.Math.ListN.{get_or-eq_default}
use Rattle.sets.specs.Sets.{Set, ◌∩◌, ◌∪◌, ◌∖◌, just, nothing}
use Rattle.vset.specs.Words.{bit, has}
pub use Rattle.vset.specs.Words.{Word}
use Rattle.vset.proofs.Bits.{bit_none, bit_of_and, bit_of_or, bit_not, bit_one}

-- a set has no member from n on

pub record Ends (S : Set) (n : ℕ) : Type 0 where
  pub past : (v : ℕ) → n ≤ v → S v ≡ false

pub ends_has : (ws : List ℕ) → Ends (has ws) (64 * length ws)
unfolding has
ends_has ws = record { past = λ v h. rw (get_or-eq_default ws 0 {n = v / 64} (omega arith)) (bit_none (v % 64)) }

pub ends_nothing : (n : ℕ) → Ends nothing n
unfolding nothing
ends_nothing n = record { past = λ v h. refl }

module _ {S : Set} {n : ℕ} (p : Ends S n) where
  pub ends_wide : (m : ℕ) → n ≤ m → Ends S m
  ends_wide m l = record { past = λ v h. p.past v (omega arith) }

  pub ends_meet : (T : Set) → Ends (S ∩ T) n
  unfolding ◌∩◌
  ends_meet T = record { past = λ v h. rw (p.past v h) }

  pub ends_cut : (T : Set) → Ends (S ∖ T) n
  unfolding ◌∖◌
  ends_cut T = record { past = λ v h. rw (p.past v h) }

  pub ends_join : {T : Set} → Ends T n → Ends (S ∪ T) n
  unfolding ◌∪◌
  ends_join q = record { past = λ v h. rw (p.past v h, q.past v h) }

-- which part of a set a word keeps

pub word_has : (ws : List ℕ) (i : ℕ) → Word (has ws) i (get_or ws i 0)
unfolding has
word_has ws i = record { at = go }
  where
    go : (k : ℕ) → k < 64 → has ws (64 * i + k) ≡ bit (get_or ws i 0) k
    go k h =
        let d : (64 * i + k) / 64 ≡ i = omega arith in
        let m : (64 * i + k) % 64 ≡ k = omega arith in
        rw (d, m)

-- from the word to a vertex of it
pub word_at : {S : Set} {i x : ℕ} (v : ℕ) → Word S i x → v / 64 ≡ i → S v ≡ bit x (v % 64)
word_at {S} {i} {x} v W q =
    let e : 64 * i + v % 64 ≡ v = omega arith in
    ap S (sym e) ∙ W.at (v % 64) (omega arith)

module _ {S T : Set} {i x y : ℕ} (p : Word S i x) (q : Word T i y) where
  pub word_meet : Word (S ∩ T) i (bit_and x y)
  unfolding ◌∩◌
  word_meet = record { at = λ k h. rw (p.at k h, q.at k h, bit_of_and) }

  pub word_join : Word (S ∪ T) i (bit_or x y)
  unfolding ◌∪◌
  word_join = record { at = λ k h. rw (p.at k h, q.at k h, bit_of_or) }

  pub word_cut : y < 2 ^ 64 → Word (S ∖ T) i (bit_and x (2 ^ 64 - 1 - y))
  unfolding ◌∖◌
  word_cut b = record { at = λ k h. rw (p.at k h, q.at k h, bit_of_and, bit_not 64 y k b h) }

-- what two rows have in common
pub common : (a b : List ℕ) (i : ℕ) → Word (has a ∩ has b) i (bit_and (get_or a i 0) (get_or b i 0))
common a b i = word_meet (word_has a i) (word_has b i)

pub word_nothing : (i : ℕ) → Word nothing i 0
unfolding nothing
word_nothing i = record { at = λ k h. sym (bit_none k) }

-- one vertex, as the code shifts it
pub one_shl : (k : ℕ) → k < 64 → 1 * 2 ^ k % 2 ^ 64 ≡ 2 ^ k
one_shl k h = shl_exact 1 k 64 (omega arith) (omega arith) ∙ one-mul (2 ^ k)

pub one_lt : (k : ℕ) → k < 64 → 1 * 2 ^ k % 2 ^ 64 < 2 ^ 64
one_lt k h = rw one_shl (pow-lt {j = 64} h)

pub word_just : (v : ℕ) → Word (just v) (v / 64) (1 * 2 ^ (v % 64) % 2 ^ 64)
unfolding just
word_just v = record { at = λ k h. rw (one_shl (v % 64) (omega arith), bit_one) (go k (ℕ_discrete k (v % 64))) }
  where
    go : (k : ℕ) → Dec (k ≡ v % 64) → eqb (64 * (v / 64) + k) v ≡ eqb k (v % 64)
    go k (yes e) = rw (eq-eqb (64 * (v / 64) + k) v (omega arith), eq-eqb k (v % 64) e)
    go k (no n) = rw (ne_eqb (64 * (v / 64) + k) v (λ q. n (omega arith)), ne_eqb k (v % 64) n)

pub just_other : (v u : ℕ) → (u / 64 ≡ v / 64 → ⊥) → just v u ≡ false
unfolding just
just_other v u n = ne_eqb u v (λ q. n (omega arith))

-- a row keeps S where each of its words does, and S has nothing past its end
pub row_keeps : (ws : List ℕ) (S : Set) → ((j : ℕ) → j < length ws → Word S j (get_or ws j 0)) → Ends S (64 * length ws)
    → has ws ≡ S
row_keeps ws S W E = fun_ext (λ v. go v (dec_lt (v / 64) (length ws)))
  where
    go : (v : ℕ) → Dec (v / 64 < length ws) → has ws v ≡ S v
    go v (yes l) = word_at v (word_has ws (v / 64)) refl ∙ sym (word_at v (W (v / 64) l) refl)
    go v (no n) = (ends_has ws).past v (omega arith) ∙ sym (E.past v (omega arith))

-- one word stored
pub row_set : (ws : List ℕ) (i x : ℕ) (S : Set) → i < length ws → Word S i x
    → ((u : ℕ) → (u / 64 ≡ i → ⊥) → has ws u ≡ S u) → has (set ws i x) ≡ S
unfolding has
row_set ws i x S h W there = fun_ext (λ u. go u (ℕ_discrete (u / 64) i))
  where
    go : (u : ℕ) → Dec (u / 64 ≡ i) → has (set ws i x) u ≡ S u
    go u (yes e) = rw (e, get_or-set_same) (sym (word_at u W e))
    go u (no n) = rw (get_or-set_other ws i (u / 64) x 0 n) (there u n)
