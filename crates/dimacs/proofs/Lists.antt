-- Laws of selected numbers, of rows one after another, and of numbers as bytes.
use mathlib.Core.Path.{◌≡◌, refl, sym, ap, subst, ◌∙◌}
use mathlib.Core.Bool.{Bool, true, false, cond}
use mathlib.Core.List.{List, [], ◌∷◌, ◌++◌, append-nil, append_assoc}
use Prim.Native.Nat.{ℕ, zero, suc, ◌+◌, ◌*◌, ◌≤◌, ◌<◌}
use native.Mathlib.Numerals.{add-one}
use native.Mathlib.Omega.{arith}
use lib.ListN.{length, get_or, length-append, get_or-append}
use lib.Seq.{get_or_at, get_or-append-add}
use Rattle.sets.specs.Below.{one, count, sum_to}
use Rattle.sets.proofs.Tests.{below}
use Rattle.sets.proofs.Below.{sum_in}
use Rattle.dimacs.specs.Lists.{select, for_each, join_to}

-- counts up to a bound

pub count_up : (a b : ℕ) (p : ℕ → Bool) → a ≤ b → count a p ≤ count b p
unfolding count
count_up a zero p h = let e : a ≡ 0 = omega arith in rw e (omega arith)
count_up a (suc b) p h = below a (suc b) (omega arith) (λ l. let r = count_up a b p (omega arith) in omega arith)
    (λ e. rw e (omega arith))

pub count_pass : (v m : ℕ) (p : ℕ → Bool) → v < m → p v ≡ true → count v p < count m p
unfolding count
count_pass v m p h e =
    let r = count_up (suc v) m p h in
    let x : one (p v) ≡ 1 = rw e refl in
    omega arith

-- the number at place i of those selected: it is below the bound, passes, and i pass below it
pub record Selected (m : ℕ) (p : ℕ → Bool) (i v : ℕ) : Type 0 where
  pub lt : v < m
  pub test : p v ≡ true
  pub place : count v p ≡ i

pub select_length : (m : ℕ) (p : ℕ → Bool) → length (select m p) ≡ count m p
unfolding select count
select_length zero p = refl
select_length (suc m) p = length-append (select m p) (cond (p m) (m ∷ []) [])
    ∙ ap (λ x. x + length (cond (p m) (m ∷ []) [])) (select_length m p) ∙ go (p m)
  where
    go : (b : Bool) → count m p + length (cond b (m ∷ []) []) ≡ one b + count m p
    go true = omega arith
    go false = omega arith

select_more : (m : ℕ) (p : ℕ → Bool) (i : ℕ) → (i < count m p → Selected m p i (get_or (select m p) i 0)) → (b : Bool)
    → p m ≡ b
    → i < one b + count m p → Selected (suc m) p i (get_or (select m p ++ cond b (m ∷ []) []) i 0)
select_more m p i r b e h = go b e h
  where
    earlier : (l : List ℕ) → i < count m p → Selected (suc m) p i (get_or (select m p ++ l) i 0)
    earlier l g = let x = r g in
        subst (Selected (suc m) p i) (sym (get_or-append (select m p) l 0 i (rw (select_length m p) g)))
        (record { lt = omega (arith, x.lt); test = x.test; place = x.place })

    go : (b : Bool) → p m ≡ b → i < one b + count m p
        → Selected (suc m) p i (get_or (select m p ++ cond b (m ∷ []) []) i 0)
    go true e h = below i (count m p) (omega arith) (earlier (m ∷ []))
        (λ q. subst (Selected (suc m) p i) (sym (get_or_at (select m p) m [] 0 i (select_length m p ∙ sym q)))
        (record { lt = omega arith; test = e; place = sym q }))
    go false e h = earlier [] (omega arith)

pub select_at : (m : ℕ) (p : ℕ → Bool) (i : ℕ) → i < count m p → Selected m p i (get_or (select m p) i 0)
unfolding select count
select_at zero p i h = absurd (omega arith)
select_at (suc m) p i h = select_more m p i (select_at m p i) (p m) refl h

-- the numbers rise with their places
pub select_rises : (m : ℕ) (p : ℕ → Bool) (i j : ℕ) → i < j → j < count m p
    → get_or (select m p) i 0 < get_or (select m p) j 0
select_rises m p i j h l =
    let a = select_at m p i (omega arith) in
    let b = select_at m p j l in
    let x : get_or (select m p) j 0 ≤ get_or (select m p) i 0
    → ⊥ = λ g. let r = count_up (get_or (select m p) j 0) (get_or (select m p) i 0) p g in
    let u = a.place in let v = b.place in omega arith in
    omega arith

-- each number that passes has its place
pub select_has : (m : ℕ) (p : ℕ → Bool) (v : ℕ) → v < m → p v ≡ true → get_or (select m p) (count v p) 0 ≡ v
select_has m p v h e =
    let a = select_at m p (count v p) (count_pass v m p h e) in
    let u = a.place in
    let x : get_or (select m p) (count v p) 0 < v
    → ⊥ = λ g. let r = count_pass (get_or (select m p) (count v p) 0) v p g a.test in omega arith in
    let y : v < get_or (select m p) (count v p) 0
    → ⊥ = λ g. let r = count_pass v (get_or (select m p) (count v p) 0) p g e in omega arith in
    omega arith

-- numbers that do not pass are not selected
pub select_skip : (a d : ℕ) (p : ℕ → Bool) → ((z : ℕ) → a ≤ z → z < a + d → p z ≡ false)
    → select (a + d) p ≡ select a p
unfolding select
select_skip a zero p h = let e : a + 0 ≡ a = omega arith in rw e
select_skip a (suc d) p h =
    let e : a + suc d ≡ suc (a + d) = omega arith in
    rw e
    (ap (λ b. select (a + d) p ++ cond b ((a + d) ∷ []) []) (h (a + d) (omega arith) (omega arith))
    ∙ append-nil (select (a + d) p)
    ∙ select_skip a d p (λ z lo hi. h z lo (omega arith)))

-- rows one after another

pub each_append : (f : ℕ → List ℕ) (l m : List ℕ) → for_each f (l ++ m) ≡ for_each f l ++ for_each f m
unfolding for_each
each_append f [] m = refl
each_append f (z ∷ l) m = ap (λ x. f z ++ x) (each_append f l m) ∙ sym (append_assoc (f z) (for_each f l) (for_each f m))

one_each : (f : ℕ → List ℕ) (z : ℕ) (b : Bool) → for_each f (cond b (z ∷ []) []) ≡ cond b (f z) []
unfolding for_each
one_each f z true = append-nil (f z)
one_each f z false = refl

-- f at each number that passes, one number more
pub each_select : (f : ℕ → List ℕ) (p : ℕ → Bool) (z : ℕ)
    → for_each f (select z p) ++ cond (p z) (f z) [] ≡ for_each f (select (z + 1) p)
unfolding select
each_select f p z =
    rw add-one
    (sym (each_append f (select z p) (cond (p z) (z ∷ []) [])
    ∙ ap (λ x. for_each f (select z p) ++ x) (one_each f z (p z))))

-- rows of w bytes: how many bytes, and byte o of row i
pub each_length : (f : ℕ → List ℕ) (w : ℕ) (l : List ℕ) → ((z : ℕ) → length (f z) ≡ w)
    → length (for_each f l) ≡ w * length l
unfolding for_each
each_length f w [] h = omega arith
each_length f w (z ∷ l) h = length-append (f z) (for_each f l) ∙ rw (h z, each_length f w l h) (omega arith)

pub each_at : (f : ℕ → List ℕ) (w : ℕ) (l : List ℕ) (i o : ℕ) → ((z : ℕ) → length (f z) ≡ w) → i < length l → o < w
    → get_or (for_each f l) (w * i + o) 0 ≡ get_or (f (get_or l i 0)) o 0
unfolding for_each
each_at f w [] i o h b c = absurd (omega arith)
each_at f w (z ∷ l) zero o h b c = let e : w * 0 + o ≡ o = omega arith in
    rw e (get_or-append (f z) (for_each f l) 0 o (rw (h z) c))
each_at f w (z ∷ l) (suc i) o h b c =
    let e : w * suc i + o ≡ length (f z) + (w * i + o) = rw (h z) (omega arith) in
    rw e (get_or-append-add (f z) (for_each f l) (w * i + o) 0 ∙ each_at f w l i o h (omega arith) c)

pub join_length : (m : ℕ) (f : ℕ → List ℕ) → length (join_to m f) ≡ sum_to m (λ i. length (f i))
unfolding join_to sum_to
join_length zero f = refl
join_length (suc m) f = length-append (join_to m f) (f m) ∙ ap (λ x. x + length (f m)) (join_length m f)

-- byte o of row j
pub join_at : (m : ℕ) (f : ℕ → List ℕ) (j o : ℕ) → j < m → o < length (f j)
    → get_or (join_to m f) (sum_to j (λ i. length (f i)) + o) 0 ≡ get_or (f j) o 0
unfolding join_to
join_at zero f j o h b = absurd (omega arith)
join_at (suc m) f j o h b = below j m h
    (λ l. get_or-append (join_to m f) (f m) 0 (sum_to j (λ i. length (f i)) + o)
    (rw (join_length m f) (omega (arith, sum_in m j (λ i. length (f i)) l))) ∙ join_at m f j o l b)
    (λ q. rw q (ap (λ x. get_or (join_to m f ++ f m) (x + o) 0) (sym (join_length m f))
    ∙ get_or-append-add (join_to m f) (f m) o 0))
