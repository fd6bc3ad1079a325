-- Bytes put one after another.
use mathlib.Core.Path.{◌≡◌, refl, sym, ap, subst, ◌∙◌}
use mathlib.Core.List.{List, [], ◌∷◌, ◌++◌, append-nil, append_assoc}
use Prim.Native.Nat.{ℕ, zero, suc, ◌+◌, ◌-◌, ◌≤◌, ◌<◌}
use native.Mathlib.Omega.{arith}
use lib.ListN.{length, take, drop, set, get_or, replicate, length-append, length-take, length-drop, length-set}
use lib.ListN.{length-replicate}
use lib.Seq.{drop-cons, drop-drop, take-append-le, take_at, drop_at, set_at, take-length, take_all}
use Rattle.zeros.specs.Zeros.{zeros}
use Rattle.output.specs.Output.{over, padded, Wrote}

-- a text that fits
pub over_fits : (ws old : List ℕ) → length ws ≤ length old → over ws old ≡ ws ++ drop (length ws) old
unfolding over
over_fits ws old h = take_all (length old) (ws ++ drop (length ws) old)
    (simp (length-append, length-drop) (omega arith))

-- nothing was written
pub over_none : (old : List ℕ) → old ≡ over [] old
unfolding over
over_none old = sym (take-length old)

-- a text that fills the output: what comes after changes nothing
over_full : (ws more old : List ℕ) → length old ≤ length ws → over (ws ++ more) old ≡ over ws old
unfolding over
over_full ws more old h =
    ap (take (length old)) (append_assoc ws more (drop (length (ws ++ more)) old))
    ∙ take-append-le (length old) ws (more ++ drop (length (ws ++ more)) old) h
    ∙ sym (take-append-le (length old) ws (drop (length ws) old) h)

-- one byte
over_more : (ws old : List ℕ) (b : ℕ) → length ws < length old
    → set (over ws old) (length ws) b ≡ over (ws ++ (b ∷ [])) old
over_more ws old b h =
    let l = length-append ws (b ∷ []) in
    let e : length (ws ++ (b ∷ [])) ≡ suc (length ws) = omega arith in
    let d = drop (suc (length ws)) old in
    ap (λ x. set x (length ws) b) (over_fits ws old (omega arith) ∙ ap (λ x. ws ++ x) (drop-cons old (length ws) 0 h))
    ∙ set_at ws (get_or old (length ws) 0) d b (length ws) refl
    ∙ sym (append_assoc ws (b ∷ []) d)
    ∙ ap (λ x. (ws ++ (b ∷ [])) ++ drop x old) (sym e)
    ∙ sym (over_fits (ws ++ (b ∷ [])) old (omega arith))

-- an output stays as long as it was
over_length : (ws old out : List ℕ) → out ≡ over ws old → length out ≡ length old
unfolding over
over_length ws old out e =
    ap length e ∙ length-take (length old) (ws ++ drop (length ws) old)
    ∙ simp (length-append, length-drop) (omega arith)

drop_zeros : (i m : ℕ) → drop i (replicate {A = ℕ} m 0) ≡ replicate (m - i) 0
drop_zeros zero m = let e : m ≡ m - 0 = omega arith in ap (λ x. replicate {A = ℕ} x 0) e
drop_zeros (suc i) zero = let e : 0 ≡ 0 - suc i = omega arith in ap (λ x. replicate {A = ℕ} x 0) e
drop_zeros (suc i) (suc m) =
    let e : m - i ≡ suc m - suc i = omega arith in
    drop_zeros i m ∙ ap (λ x. replicate {A = ℕ} x 0) e

-- a text over zeros
pub over_zeros : (ws : List ℕ) (m : ℕ) → length ws ≤ m → over ws (zeros m) ≡ padded ws m
unfolding padded zeros
over_zeros ws m h =
    over_fits ws (replicate m 0) (rw (length-replicate {A = ℕ} m 0) h) ∙ ap (λ x. ws ++ x) (drop_zeros (length ws) m)

pub wrote_byte : (out : List ℕ) (at b : ℕ) → at < length out → Wrote (b ∷ []) out at (set out at b) (at + 1)
wrote_byte out at b h = record {
  end = refl;
  size = length-set out at b;
  text = λ ws old e q. let l = over_length ws old out q in
      ap (λ x. set x at b) q ∙ rw (← e) (over_more ws old b (omega arith));
}

-- a word past the end
pub past_word : (out word : List ℕ) (at : ℕ) → length out ≤ at → Wrote word out at out (at + length word)
past_word out word at h = record {
  end = refl;
  size = refl;
  text = λ ws old e q. let l = over_length ws old out q in q ∙ sym (over_full ws word old (omega arith));
}

pub past_byte : (out : List ℕ) (at b : ℕ) → length out ≤ at → Wrote (b ∷ []) out at out (at + 1)
past_byte out at b h = past_word out (b ∷ []) at h

-- a word that fits, in its place
pub wrote_word : (out word : List ℕ) (at : ℕ) → at + length word ≤ length out
    → Wrote word out at (take at out ++ (word ++ drop (length word) (drop at out))) (at + length word)
wrote_word out word at h = record {
  end = refl;
  size = length-append (take at out) _ ∙ simp (length-append, length-take, length-drop) (omega arith);
  text = λ ws old e q.
      let l = over_length ws old out q in
      let f : out ≡ ws ++ drop (length ws) old = q ∙ over_fits ws old (omega arith) in
      let n = length-append ws word in
      rw (
        f,
        take_at ws (drop (length ws) old) at e,
        drop_at ws (drop (length ws) old) at e,
        drop-drop (length word) (length ws) old,
      )
      (sym (append_assoc ws word _)
      ∙ ap (λ k. (ws ++ word) ++ drop k old) (sym n)
      ∙ sym (over_fits (ws ++ word) old (omega arith)));
}

-- nothing, and one piece after another
pub wrote_none : (out : List ℕ) (at : ℕ) → Wrote [] out at out at
wrote_none out at = record {
  end = omega arith;
  size = refl;
  text = λ ws old e q. q ∙ ap (λ x. over x old) (sym (append-nil ws));
}

pub wrote_then : {a b l m n : List ℕ} {at r e : ℕ} → Wrote a l at m r → Wrote b m r n e → Wrote (a ++ b) l at n e
wrote_then {a} {b} {l} {m} {n} {at} {r} {e} p q = record {
  end = let u = p.end in let v = q.end in let w = length-append a b in omega arith;
  size = q.size ∙ p.size;
  text = λ ws old f g.
      let y : length (ws ++ a) ≡ r = length-append ws a ∙ rw f (sym p.end) in
      q.text (ws ++ a) old y (p.text ws old f g) ∙ ap (λ x. over x old) (append_assoc ws a b);
}

pub wrote_same : {a b l m : List ℕ} {at r : ℕ} → a ≡ b → Wrote a l at m r → Wrote b l at m r
wrote_same {a} {b} {l} {m} {at} {r} e p = subst (λ x. Wrote x l at m r) e p

-- a text that was put from the start: over what the output held, and over zeros
pub wrote_over : {a l m : List ℕ} {r : ℕ} → Wrote a l 0 m r → m ≡ over a l
wrote_over {a} {l} p = p.text [] l refl (over_none l)

pub wrote_padded : {a l m : List ℕ} {r : ℕ} (size : ℕ) → Wrote a l 0 m r → l ≡ zeros size → length a ≤ size
    → m ≡ padded a size
wrote_padded {a} size p e h = wrote_over p ∙ ap (over a) e ∙ over_zeros a size h
