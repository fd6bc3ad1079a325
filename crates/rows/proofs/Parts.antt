-- A part of a list of words that was lent and is back: one row, or the words from a place on.
use Rattle.std.proofs.Common.{ℕ, ◌+◌, ◌-◌, ◌≤◌, ◌<◌, List, ◌≡◌, sym, ap, ◌∙◌, subst, arith, replicate, length, get_or, take, drop, length-take, length-drop, take_all, drop-drop, length-take-le, get_or-append-add, get_or-take, get_or-drop, ext_get_or}
use native.Mathlib.Decide.{dec_lt}
use borrow.Rule.Slice.PartMut.{mid_of, put_mid, same_len_mid}
use Rattle.std.proofs.Math.ListN.{length-replicate}
use Rattle.std.proofs.lemmas.List.{get_or-replicate}
use Rattle.std.proofs.Math.ListN.{get_or-append}
use Rattle.sets.specs.Sets.{Set, nothing}
use Rattle.vset.specs.Words.{has}
use Rattle.vset.proofs.Words.{row_keeps, word_nothing, ends_nothing}
use Rattle.rows.specs.Rows.{set_at, Outside, Put}
use Rattle.rows.proofs.Rows.{row_length}

module _ (a k : ℕ) (p ys : List ℕ) (fits : a + k ≤ length p) (long : length ys ≡ k) where
  mid_len : length (put_mid a k p ys) ≡ length p
  mid_len = same_len_mid a k p ys (long ∙ sym (row_length p k a fits))

  mid_before : (j : ℕ) → j < a → get_or (put_mid a k p ys) j 0 ≡ get_or p j 0
  mid_before j h = let m : j < length (take a p) = omega (arith, length-take a p) in
      get_or-append (take a p) _ 0 j m ∙ get_or-take a p j 0 h

  mid_inside : (i : ℕ) → i < k → get_or (put_mid a k p ys) (a + i) 0 ≡ get_or ys i 0
  mid_inside i h =
      let e : length (take a p) ≡ a = length-take-le a p (omega arith) in
      ap (λ (x : ℕ). get_or (put_mid a k p ys) (x + i) 0) (sym e) ∙ get_or-append-add (take a p) _ i 0
      ∙ get_or-append ys _ 0 i (omega arith)

  mid_after : (j : ℕ) → a + k ≤ j → get_or (put_mid a k p ys) j 0 ≡ get_or p j 0
  mid_after j h =
      let e : length (take a p) ≡ a = length-take-le a p (omega arith) in
      let i = j - (a + k) in
      let q : j ≡ length (take a p) + (length ys + i) = omega arith in
      let r : a + (k + i) ≡ j = omega arith in
      ap (λ (x : ℕ). get_or (put_mid a k p ys) x 0) q ∙ get_or-append-add (take a p) _ (length ys + i) 0
      ∙ get_or-append-add ys _ i 0
      ∙ get_or-drop k (drop a p) i 0 ∙ get_or-drop a p (k + i) 0 ∙ ap (λ (x : ℕ). get_or p x 0) r

  -- a row
  pub put_row : Put (has ys) k a p (put_mid a k p ys)
  unfolding set_at
  put_row = record {
    here = ap has (ext_get_or 0 (take k (drop a (put_mid a k p ys))) ys
        (row_length _ k a (omega (arith, mid_len)) ∙ sym long)
        (λ i l. let m : i < k = omega (arith, row_length (put_mid a k p ys) k a (omega (arith, mid_len))) in
        rw (get_or-take, get_or-drop) (mid_inside i m)));
    rest = record { len = mid_len; same = λ j h. go j h (dec_lt j a) (dec_lt j (a + k)) };
  }
    where
      go : (j : ℕ) → (a ≤ j → j < a + k → ⊥) → Dec (j < a) → Dec (j < a + k) → get_or (put_mid a k p ys) j 0 ≡ get_or p j 0
      go j h (yes l) d = mid_before j l
      go j h (no l) (yes r) = absurd (h (omega arith) r)
      go j h (no l) (no r) = mid_after j (omega arith)

-- a row that was lent, to a function that makes f of its set
pub lent_row : (f : Set → Set) (a w : ℕ) (p ys : List ℕ) → a + w ≤ length p
    → length ys ≡ length (mid_of a (a + w - a) p) → has ys ≡ f (has (mid_of a (a + w - a) p))
    → Put (f (set_at p w a)) w a p (put_mid a (a + w - a) p ys)
unfolding set_at
lent_row f a w p ys fits l h = let e : w ≡ a + w - a = omega arith in go (a + w - a) e l h
  where
    base : length ys ≡ length (mid_of a w p) → has ys ≡ f (has (mid_of a w p))
        → Put (f (set_at p w a)) w a p (put_mid a w p ys)
    base l h = let x = put_row a w p ys fits (l ∙ row_length p w a fits) in record { here = x.here ∙ h; rest = x.rest }

    go : (k : ℕ) → w ≡ k → length ys ≡ length (mid_of a k p) → has ys ≡ f (has (mid_of a k p))
        → Put (f (set_at p w a)) w a p (put_mid a k p ys)
    go k e = subst (λ (k : ℕ). length ys ≡ length (mid_of a k p) → has ys ≡ f (has (mid_of a k p))
        → Put (f (set_at p w a)) w a p (put_mid a k p ys)) e base

-- a part to the end
module _ (a : ℕ) (p : List ℕ) (fits : a ≤ length p) where
  tail_is : mid_of a (length p - a) p ≡ drop a p
  tail_is = take_all (length p - a) (drop a p) (omega (arith, length-drop a p))

  -- its rows are rows of the whole
  pub tail_set : (w b : ℕ) → set_at (mid_of a (length p - a) p) w b ≡ set_at p w (a + b)
  unfolding set_at
  tail_set w b = ap (λ (l : List ℕ). has (take w (drop b l))) tail_is
      ∙ ap (λ (l : List ℕ). has (take w l)) (drop-drop b a p)

  -- and what is outside in it is outside in the whole
  pub tail_back : {s : ℕ} {ys : List ℕ} → Outside 0 s (mid_of a (length p - a) p) ys
      → Outside a (a + s) p (put_mid a (length p - a) p ys)
  tail_back {s} {ys} x = record {
    len = mid_len a (length p - a) p ys (omega arith) long;
    same = λ j h. go j h (dec_lt j a) (dec_lt j (length p));
  }
    where
      long : length ys ≡ length p - a
      long = x.len ∙ row_length p (length p - a) a (omega arith)

      go : (j : ℕ) → (a ≤ j → j < a + s → ⊥) → Dec (j < a) → Dec (j < length p)
          → get_or (put_mid a (length p - a) p ys) j 0 ≡ get_or p j 0
      go j h (yes l) d = mid_before a (length p - a) p ys (omega arith) long j l
      go j h (no l) (no r) = mid_after a (length p - a) p ys (omega arith) long j (omega arith)
      go j h (no l) (yes r) =
          let i = j - a in
          let e : j ≡ a + i = omega arith in
          ap (λ (x : ℕ). get_or (put_mid a (length p - a) p ys) x 0) e
          ∙ mid_inside a (length p - a) p ys (omega arith) long i (omega arith)
          ∙ x.same i (λ u v. h (omega arith) (omega arith)) ∙ ap (λ (l : List ℕ). get_or l i 0) tail_is
          ∙ get_or-drop a p i 0 ∙ ap (λ (x : ℕ). get_or p x 0) (sym e)

-- a row of zeros is empty
pub zeros_nothing : (n : ℕ) → has (replicate n 0) ≡ nothing
zeros_nothing n =
    row_keeps (replicate n 0) nothing
    (λ j l. let m : j < n = omega (arith, length-replicate {A = ℕ} n 0) in rw (get_or-replicate {A = ℕ} n j 0 0 m) (word_nothing j))
    (ends_nothing _)
