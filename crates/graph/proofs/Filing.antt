-- Laws of the buckets: a vertex filed, and the walk through the bucket of a frequency.
use Rattle.std.proofs.Common.{◌≡◌, refl, sym, ap, ◌∙◌, Bool, true, false, ◌&&◌, ◌||◌, List, ℕ, ◌+◌, ◌*◌, ◌/◌, ◌≤◌, ◌<◌, arith, eqb, ltb, get_or, replicate, eqb-true, ltb-true, eq-eqb, ne_eqb, lt-ltb, le-ltb}
use mathlib.Core.Path.{fun_ext}
use native.Mathlib.Decide.{ℕ_discrete, dec_lt}
use lib.ListN.{length-replicate, get_or-replicate}
use lib.ListN.{get_or-eq_default}
use Rattle.sets.specs.Sets.{Set, ◌∩◌, ◌∪◌, ◌∖◌, nothing, just}
use Rattle.sets.proofs.Tests.{clash, is_false, iff, and_l, and_r, and_in, and_false, or_r}
use Rattle.sheet_rows.specs.Rows.{freq}
use Rattle.vset.specs.Words.{Least}
use Rattle.vset.proofs.Words.{Word, word_at, word_nothing}
use Rattle.rows.specs.Rows.{set_at, row_at, Put}
use Rattle.rows.proofs.Rows.{word_at_row, set_past}
use Rattle.rule_strikes.specs.Strikes.{stretch}
use Rattle.graph.specs.Buckets.{buckets, most_wide, bucket_of, bucket, sharing, on_freq, Filed}
use Rattle.rule_strikes.proofs.Spans.{stretch_in, meet_inside, put_as, struck_none, struck_past, struck_more, just_same}
use Rattle.rule_strikes.proofs.Strikes.{others_same}

pub bucket_lt : (x : ℕ) → bucket_of x < buckets
unfolding bucket_of
bucket_lt x = omega arith

-- one vertex more: its own bucket, and the others

module _ (fs : List ℕ) (v : ℕ) where
  same_lt : (x : ℕ) → (x ≡ v → ⊥) → ltb x (v + 1) ≡ ltb x v
  same_lt x e = iff _ _ (λ h. let l = ltb-true x (v + 1) h in lt-ltb x v (omega arith))
      (λ h. let l = ltb-true x v h in lt-ltb x (v + 1) (omega arith))

  bucket_own : bucket fs v (bucket_of (freq fs v)) ∪ just v ≡ bucket fs (v + 1) (bucket_of (freq fs v))
  unfolding bucket ◌∪◌ just
  bucket_own = fun_ext (λ x. go x (ℕ_discrete x v))
    where
      go : (x : ℕ) → Dec (x ≡ v)
          → (ltb x v && eqb (bucket_of (freq fs x)) (bucket_of (freq fs v))) || eqb x v
          ≡ ltb x (v + 1) && eqb (bucket_of (freq fs x)) (bucket_of (freq fs v))
      go x (yes e) = rw e (or_r (ltb v v && eqb (bucket_of (freq fs v)) (bucket_of (freq fs v))) (eq-eqb v v refl)
          ∙ sym (and_in (lt-ltb v (v + 1) (omega arith)) (eq-eqb (bucket_of (freq fs v)) _ refl)))
      go x (no e) = rw (ne_eqb x v e, same_lt x e) (no_more _)
        where
          no_more : (b : Bool) → b || false ≡ b
          no_more true = refl
          no_more false = refl

  bucket_other : (b : ℕ) → (bucket_of (freq fs v) ≡ b → ⊥) → bucket fs v b ≡ bucket fs (v + 1) b
  unfolding bucket
  bucket_other b ne = fun_ext (λ x. go x (ℕ_discrete x v))
    where
      go : (x : ℕ) → Dec (x ≡ v) → ltb x v && eqb (bucket_of (freq fs x)) b ≡ ltb x (v + 1)
          && eqb (bucket_of (freq fs x)) b
      go x (yes e) = rw (e, ne_eqb (bucket_of (freq fs v)) b ne) (and_false (ltb v v) false refl
          ∙ sym (and_false (ltb v (v + 1)) false refl))
      go x (no e) = rw (same_lt x e)

-- a table of zeros holds no vertex
zeros_hold : (p : List ℕ) (w a : ℕ) → ((i : ℕ) → get_or p i 0 ≡ 0) → set_at p w a ≡ nothing
unfolding nothing
zeros_hold p w a z = fun_ext (λ v. go v (dec_lt v (64 * w)))
  where
    go : (v : ℕ) → Dec (v < 64 * w) → set_at p w a v ≡ false
    go v (yes l) =
        let W : Word (set_at p w a) (v / 64) 0 = rw (z (a + v / 64)) at (word_at_row p w a (v / 64) (omega arith)) in
        word_at v W refl ∙ sym (word_at v (word_nothing (v / 64)) refl)
    go v (no l) = set_past p w a v (omega arith)

pub filed_none : (fs : List ℕ) (wide : ℕ) → Filed fs 0 wide (replicate (buckets * most_wide) 0)
unfolding bucket nothing
filed_none fs wide = record {
  size = length-replicate {A = ℕ} (buckets * most_wide) 0;
  rows = λ b l. zeros_hold (replicate (buckets * most_wide) 0) wide (0 + b * wide)
      (λ i. zero (buckets * most_wide) i (dec_lt i (buckets * most_wide)))
      ∙ fun_ext (λ v. rw (le-ltb v 0 (omega arith)));
}
  where
    zero : (m i : ℕ) → Dec (i < m) → ◌≡◌ {A = ℕ} (get_or (replicate m 0) i 0) 0
    zero m i (yes l) = get_or-replicate m i 0 0 l
    zero m i (no l) = get_or-eq_default (replicate m 0) 0 {n = i} (rw (length-replicate {A = ℕ} m 0) (omega arith))

pub filed_more : {fs p q : List ℕ} {v wide : ℕ} (at : ℕ) → at ≡ bucket_of (freq fs v) * wide → Filed fs v wide p
    → Put (set_at p wide at ∪ just v) wide at p q → Filed fs (v + 1) wide q
filed_more {fs} {p} {q} {v} {wide} at here F P = record {
  size = P.rest.len ∙ F.size;
  rows = λ b l. go b l (ℕ_discrete b (bucket_of (freq fs v)));
}
  where
    place : at ≡ 0 + bucket_of (freq fs v) * wide
    place = omega arith

    go : (b : ℕ) → b < buckets → Dec (b ≡ bucket_of (freq fs v)) → row_at q wide 0 b ≡ bucket fs (v + 1) b
    go b l (yes e) =
        let P' : set_at q wide (0 + bucket_of (freq fs v) * wide)
        ≡ set_at p wide (0 + bucket_of (freq fs v) * wide) ∪ just v = rw place at P.here in
        rw e (P' ∙ ap (λ (X : Set). X ∪ just v) (F.rows (bucket_of (freq fs v)) (rw e at l)) ∙ bucket_own fs v)
    go b l (no e) = others_same 0 (bucket_of (freq fs v)) at place P b e ∙ F.rows b l
        ∙ bucket_other fs v b (λ f. e (sym f))

-- the vertices on a frequency are in its bucket
on_bucket : (fs : List ℕ) (n x v : ℕ) → on_freq fs n x v ≡ true → bucket fs n (bucket_of x) v ≡ true
unfolding on_freq sharing bucket
on_bucket fs n x v h =
    let e = eqb-true (freq fs v) x (and_r (ltb v n) _ h) in
    and_in (and_l (ltb v n) _ h) (rw e (eq-eqb (bucket_of x) _ refl))

sharing_on : (fs : List ℕ) (n x v : ℕ) → v < n → sharing fs x v ≡ on_freq fs n x v
unfolding on_freq
sharing_on fs n x v l = rw (lt-ltb v n l)

on_lt : (fs : List ℕ) (n x v : ℕ) → on_freq fs n x v ≡ true → v < n
unfolding on_freq
on_lt fs n x v h = ltb-true v n (and_l (ltb v n) _ h)

-- the walk through a bucket: what is below v is struck, and v is its next vertex
pub record Walking (fs : List ℕ) (n x w to : ℕ) (p₀ p : List ℕ) (v : ℕ) : Type 0 where
  pub put : Put (set_at p₀ w to ∖ (stretch 0 v ∩ on_freq fs n x)) w to p₀ p

module _ {fs table : List ℕ} {n wide : ℕ} (F : Filed fs n wide table) (x at : ℕ) (here : at ≡ bucket_of x * wide) where
  none_on : (from r i : ℕ) → Least (set_at table wide at) from (64 * wide) r → from ≤ i → i < r
      → on_freq fs n x i ≡ false
  none_on from r i L a b = is_false _ (λ t.
      let e : set_at table wide at ≡ bucket fs n (bucket_of x) =
      (let z : at ≡ 0 + bucket_of x * wide = omega arith in rw z (F.rows (bucket_of x) (bucket_lt x))) in
      clash (set_at table wide at i) (rw e (on_bucket fs n x i t)) (L.none i a b))

  pub walk_start : {w to r : ℕ} (p : List ℕ) → Least (set_at table wide at) 0 (64 * wide) r → Walking fs n x w to p p r
  walk_start {w} {to} {r} p L = record {
    put = struck_past 0 0 r (on_freq fs n x) (omega arith) (λ i a b. none_on 0 r i L a b)
        (struck_none w to 0 (on_freq fs n x) p);
  }

  pub walk_more : {w to v r : ℕ} {p₀ p q : List ℕ} → v < n → Walking fs n x w to p₀ p v
      → Put (set_at p w to ∖ (just v ∩ sharing fs x)) w to p q
      → Least (set_at table wide at) (v + 1) (64 * wide) r → Walking fs n x w to p₀ q r
  walk_more {w} {to} {v} {r} {p₀} {p} {q} h W P L = record {
    put = struck_past 0 (v + 1) r (on_freq fs n x) L.after (λ i a b. none_on (v + 1) r i L a b)
        (struck_more 0 v (on_freq fs n x) (omega arith) W.put
        (put_as (ap (λ (X : Set). set_at p w to ∖ X) (just_same v _ _ (sharing_on fs n x v h))) P));
  }

pub walk_end : {fs p₀ p : List ℕ} {n x w to v : ℕ} → n ≤ v → Walking fs n x w to p₀ p v
    → Put (set_at p₀ w to ∖ on_freq fs n x) w to p₀ p
walk_end {fs} {p₀} {p} {n} {x} {w} {to} {v} h W = put_as (ap (λ (X : Set). set_at p₀ w to ∖ X)
    (sym (meet_inside (stretch 0 v) (on_freq fs n x) inside))) W.put
  where
    inside : (i : ℕ) → on_freq fs n x i ≡ true → stretch 0 v i ≡ true
    inside i t = stretch_in 0 v i (omega arith) (omega (arith, on_lt fs n x i t))
