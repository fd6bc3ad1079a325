-- Laws of the edges before a code, as the rows give them, and of the texts as they are put, line by line.
use mathlib.Core.Path.{◌≡◌, refl, sym, ap, subst, ◌∙◌}
use mathlib.Core.Bool.{Bool, true, false, cond, ◌&&◌}
use mathlib.Core.List.{List, [], ◌∷◌, ◌++◌, append-nil}
use Prim.Native.Nat.{ℕ, suc, ◌+◌, ◌-◌, ◌*◌, ◌≤◌, ◌<◌}
use native.Mathlib.Numerals.{add-one}
use native.Mathlib.Omega.{arith}
use native.Mathlib.Nat.{mul-le-mul, mul_comm, mul-suc}
use lib.Dec.{ltb}
use lib.ListN.{length, take, drop, length-append, length-take, length-drop}
use borrow.Author.Tests.{lt-ltb, le-ltb}
use Rattle.sets.specs.Below.{tabulate}
use Rattle.sets.specs.Sets.{Set}
use Rattle.sets.proofs.Tests.{and_false}
use Rattle.vset.specs.Words.{has, Least}
use Rattle.rows.specs.Rows.{set_at, row_at}
use Rattle.sheet_rows.specs.Form.{most_freqs}
use Rattle.lines.specs.Lines.{ascii, decimal, line}
use Rattle.output.specs.declared.Output.{Output}
use Rattle.output.specs.Puts.{Puts}
use Rattle.output.proofs.Puts.{puts_none, puts_then, puts_same}
use Rattle.dimacs.specs.Lists.{select, for_each}
use Rattle.dimacs.specs.Export.{is_edge, edge_codes, edge_text, graph_text, count_text, counts_text}
use Rattle.dimacs.proofs.Lists.{each_append, select_skip}
use Rattle.dimacs.proofs.Codes.{code_first, code_second}
use Rattle.graph_export.specs.Rows.{row_words, RowsHold, edge_codes_to, lines_to, EdgesCounted, LinesPut}

-- of at most 1,024 vertices
pub square_few : (n : ℕ) → n ≤ most_freqs → n * n ≤ 1048576
square_few n h = mul-le-mul h h

-- rows of n codes
pub row_more : (u n : ℕ) → u * n + n ≡ (u + 1) * n
row_more u n = sym (rw add-one (mul_comm (suc u) n ∙ mul-suc n u ∙ ap (λ i. i + n) (mul_comm n u)))

pub rows_few : (u n : ℕ) → u ≤ n → n ≤ most_freqs → u * n ≤ 1048576
rows_few u n h g = let l : u ≤ most_freqs = omega arith in mul-le-mul l g

-- the part of the words that is row u
pub part_row : (p : List ℕ) (a u : ℕ) → a ≡ 0 + u * row_words
    → has (take (a + row_words - a) (drop a p)) ≡ row_at p row_words 0 u
unfolding set_at
part_row p a u e = let x : a + 16 - a ≡ 16 = omega arith in rw (x, e)

pub part_length : (p : List ℕ) (a : ℕ) → a + row_words ≤ length p
    → length (take (a + row_words - a) (drop a p)) ≡ row_words
part_length p a h =
    let x : a + 16 - a ≡ 16 = omega arith in
    rw x (length-take 16 (drop a p) ∙ simp length-drop (omega arith))

-- the next member below a lower bound, or that bound
pub least_below : {S S' : Set} {from m n r : ℕ} → S ≡ S' → Least S from m r → r < n → n ≤ m → Least S' from n r
least_below {S} {S'} {from} {m} {n} {r} e L h g = subst (λ (X : Set). Least X from n r) e
    (record { after = L.after; within = omega arith; none = L.none; found = λ _. L.found (omega arith) })

pub least_past : {S S' : Set} {from m n r : ℕ} → S ≡ S' → Least S from m r → n ≤ r → from ≤ n → Least S' from n n
least_past {S} {S'} {from} {m} {n} {r} e L h g = subst (λ (X : Set). Least X from n n) e
    (record {
      after = g;
      within = omega arith;
      none = λ v a b. L.none v a (omega arith);
      found = λ l. absurd (omega arith);
    })

-- the codes of row u
module _ (n : ℕ) (adj : ℕ → ℕ → Bool) (u : ℕ) where
  edge_at : (v : ℕ) → v < n → is_edge n adj (u * n + v) ≡ (ltb u v && adj u v)
  unfolding is_edge
  edge_at v h = rw (code_first n u v h, code_second n u v h)

  no_edges : (a b : ℕ) → a ≤ b → b ≤ n → ((v : ℕ) → a ≤ v → v < b → (ltb u v && adj u v) ≡ false)
      → edge_codes_to n adj (u * n + b) ≡ edge_codes_to n adj (u * n + a)
  no_edges a b l m h =
      let e : u * n + b ≡ (u * n + a) + (b - a) = omega arith in
      rw e (select_skip (u * n + a) (b - a) (is_edge n adj) (λ z lo hi.
      let v = z - u * n in
      let q : z ≡ u * n + v = omega arith in
      ap (is_edge n adj) q ∙ edge_at v (omega arith) ∙ h v (omega arith) (omega arith)))

  no_lower : (v : ℕ) → v ≤ u → (ltb u v && adj u v) ≡ false
  no_lower v h = rw (le-ltb u v h) refl

  no_other : (v : ℕ) → adj u v ≡ false → (ltb u v && adj u v) ≡ false
  no_other v e = and_false (ltb u v) (adj u v) e

  -- up to the first neighbour above u there is no edge
  codes_start : (v : ℕ) → u < n → Least (adj u) (u + 1) n v → edge_codes_to n adj (u * n + v) ≡ edge_codes_to n adj (u * n)
  codes_start v h L =
      let e : u * n + 0 ≡ u * n = omega arith in
      no_edges (u + 1) v L.after L.within (λ x lo hi. no_other x (L.none x lo hi))
      ∙ no_edges 0 (u + 1) (omega arith) (omega arith) (λ x lo hi. no_lower x (omega arith))
      ∙ ap (edge_codes_to n adj) e

  codes_edge : (v : ℕ) → u < v → v < n → adj u v ≡ true
      → edge_codes_to n adj (u * n + (v + 1)) ≡ edge_codes_to n adj (u * n + v) ++ ((u * n + v) ∷ [])
  unfolding select
  codes_edge v l h t =
      let e : u * n + (v + 1) ≡ suc (u * n + v) = omega arith in
      let p : is_edge n adj (u * n + v) ≡ true = edge_at v h ∙ rw (lt-ltb u v l) t in
      rw (e, select) (ap (λ b. select (u * n + v) (is_edge n adj) ++ cond b ((u * n + v) ∷ []) []) p)

  -- from one neighbour up to the next there is one edge
  codes_more : (v w : ℕ) → u < v → v < n → adj u v ≡ true → Least (adj u) (v + 1) n w
      → edge_codes_to n adj (u * n + w) ≡ edge_codes_to n adj (u * n + v) ++ ((u * n + v) ∷ [])
  codes_more v w l h t L =
      no_edges (v + 1) w L.after L.within (λ x lo hi. no_other x (L.none x lo hi)) ∙ codes_edge v l h t

-- v is the next neighbour of u, or n
pub record AtNeighbour (n u v : ℕ) (p : List ℕ) : Type 0 where
  pub above : u < v
  pub within : v ≤ n
  pub found : v < n → row_at p row_words 0 u v ≡ true

pub at_neighbour : {n u v from : ℕ} {p : List ℕ} → u < from → Least (row_at p row_words 0 u) from n v
    → AtNeighbour n u v p
at_neighbour h L = record { above = omega (arith, L.after); within = L.within; found = L.found }

module _ {n u : ℕ} {p : List ℕ} (h : u < n) where
  -- what the rows' words say is said of every graph that they hold
  least_of : {from v : ℕ} (adj : ℕ → ℕ → Bool) → RowsHold adj n p → Least (row_at p row_words 0 u) from n v
      → Least (adj u) from n v
  least_of {from} {v} adj H L = subst (λ (S : Set). Least S from n v) (H.rows u h) L

  found_of : {v : ℕ} (adj : ℕ → ℕ → Bool) → RowsHold adj n p → AtNeighbour n u v p → v < n → adj u v ≡ true
  found_of {v} adj H A l = sym (ap (λ (S : Set). S v) (H.rows u h)) ∙ A.found l

  pub count_start : {v : ℕ} → Least (row_at p row_words 0 u) (u + 1) n v → EdgesCounted n (u * n) (u * n + v) p 0
  count_start {v} L = record {
    answer = λ adj H.
        let e = ap length (codes_start n adj u v h (least_of adj H L)) in omega arith;
  }

  pub count_more : {v w m : ℕ} → EdgesCounted n (u * n) (u * n + v) p m → AtNeighbour n u v p → v < n
      → Least (row_at p row_words 0 u) (v + 1) n w → EdgesCounted n (u * n) (u * n + w) p (m + 1)
  count_more {v} {w} {m} E A l L = record {
    answer = λ adj H.
        let x = E.answer adj H in
        let e = ap length (codes_more n adj u v w A.above l (found_of adj H A l) (least_of adj H L)) in
        let s = length-append (edge_codes_to n adj (u * n + v)) ((u * n + v) ∷ []) in
        omega arith;
  }

  pub lines_start : {v : ℕ} (o : Output) → Least (row_at p row_words 0 u) (u + 1) n v
      → LinesPut n (u * n) (u * n + v) (24 * v) p o o
  lines_start {v} o L = record {
    few = omega arith;
    same = refl;
    wrote = λ adj H q P.
        puts_same (ap (for_each (edge_text n)) (sym (codes_start n adj u v h (least_of adj H L)))) P;
  }

  pub lines_more : {v w : ℕ} {o q t : Output} → LinesPut n (u * n) (u * n + v) (24 * v) p o q
      → AtNeighbour n u v p → v < n
      → Puts (line (ascii "e " ++ decimal (u + 1)) (v + 1)) q t → t.end ≤ q.end + 24
      → Least (row_at p row_words 0 u) (v + 1) n w → LinesPut n (u * n) (u * n + w) (24 * w) p o t
  unfolding edge_text for_each
  lines_more {v} {w} P A l W few L = record {
    few = omega (arith, P.few, L.after);
    same = W.same ∙ P.same;
    wrote = λ adj H b X.
        let z = u * n + v in
        let s = codes_more n adj u v w A.above l (found_of adj H A l) (least_of adj H L) in
        let x : line (ascii "e " ++ decimal (u + 1)) (v + 1) ≡ edge_text n z =
        sym (rw (code_first n u v l, code_second n u v l) refl) in
        let y = ap (for_each (edge_text n)) s ∙ each_append (edge_text n) (edge_codes_to n adj z) (z ∷ [])
        ∙ ap (λ i. lines_to n adj z ++ i) (append-nil (edge_text n z)) in
        puts_same (sym y) (puts_then (P.wrote adj H b X) (puts_same x W));
  }

-- the rows, one after another
pub counted_none : (n : ℕ) (p : List ℕ) → EdgesCounted n 0 0 p 0
counted_none n p = record { answer = λ adj H. omega arith }

pub counted_then : {n a b c x y : ℕ} {p : List ℕ} → EdgesCounted n a b p x → EdgesCounted n b c p y
    → EdgesCounted n a c p (x + y)
counted_then E F = record { answer = λ adj H. let x = E.answer adj H in let y = F.answer adj H in omega arith }

pub counted_to : {n a b c x : ℕ} {p : List ℕ} → b ≡ c → EdgesCounted n a b p x → EdgesCounted n a c p x
counted_to {n} {a} {b} {c} {x} {p} e E = subst (λ i. EdgesCounted n a i p x) e E

pub lines_none : (n : ℕ) (p : List ℕ) (o : Output) → LinesPut n 0 0 0 p o o
lines_none n p o = record { few = omega arith; same = refl; wrote = λ adj H q P. P }

pub lines_then : {n a b c i j : ℕ} {p : List ℕ} {o q t : Output} → LinesPut n a b i p o q → LinesPut n b c j p q t
    → LinesPut n a c (i + j) p o t
lines_then P Q = record {
  few = omega (arith, P.few, Q.few);
  same = Q.same ∙ P.same;
  wrote = λ adj H q W. Q.wrote adj H q (P.wrote adj H q W);
}

pub lines_to_lem : {n a b c i j : ℕ} {p : List ℕ} {o t : Output} → b ≡ c → i ≡ j → LinesPut n a b i p o t
    → LinesPut n a c j p o t
lines_to_lem {n} {a} {b} {c} {i} {j} {p} {o} {t} e f P =
    subst (λ x. LinesPut n a c x p o t) f (subst (λ x. LinesPut n a x i p o t) e P)

-- the graph text
pub first_line : (n m : ℕ) {o u : Output}
    → Puts (line ((112 ∷ 32 ∷ 101 ∷ 100 ∷ 103 ∷ 101 ∷ 32 ∷ []) ++ decimal n) m) o u
    → Puts (line (ascii "p edge " ++ decimal n) m) o u
unfolding ascii
first_line n m w = w

pub graph_put : {n m : ℕ} {p : List ℕ} {o q u : Output} → n ≤ most_freqs → EdgesCounted n 0 (n * n) p m
    → Puts (line (ascii "p edge " ++ decimal n) m) o q → LinesPut n 0 (n * n) (24 * (n * n)) p q u
    → (adj : ℕ → ℕ → Bool) → RowsHold adj n p → Puts (graph_text n adj) o u
unfolding graph_text edge_codes select for_each
graph_put {n} {m} {p} {o} {q} {u} h c w x adj H =
    let m-is : m ≡ length (edge_codes_to n adj (n * n)) = omega (arith, c.answer adj H) in
    puts_then (puts_same (ap (line (ascii "p edge " ++ decimal n)) m-is) w)
    (x.wrote adj H q (puts_none q))

-- the count text
pub count_put : (c : ℕ) {o p q : Output} → Puts (decimal c) o p → Puts (10 ∷ []) p q
    → Puts (count_text c) o q
unfolding count_text ascii
count_put c x y = puts_then x y

pub counts_none : (f : ℕ → ℕ) (o : Output) → Puts (counts_text (tabulate 0 f)) o o
unfolding counts_text tabulate for_each
counts_none f o = puts_none o

counts_line : (l : ℕ) (f : ℕ → ℕ) → counts_text (tabulate l f) ++ count_text (f l) ≡ counts_text (tabulate (l + 1) f)
unfolding counts_text tabulate for_each
counts_line l f =
    rw add-one
    (sym (each_append count_text (tabulate l f) (f l ∷ [])
    ∙ ap (λ x. for_each count_text (tabulate l f) ++ x) (append-nil (count_text (f l)))))

pub counts_more : (l : ℕ) (f : ℕ → ℕ) (v : ℕ) {o p q : Output} → v ≡ f l
    → Puts (counts_text (tabulate l f)) o p → Puts (count_text v) p q
    → Puts (counts_text (tabulate (l + 1) f)) o q
counts_more l f v h x y = puts_same (counts_line l f) (puts_then x (puts_same (ap count_text h) y))

pub counts_done : (l k : ℕ) (f : ℕ → ℕ) {o p : Output} → l ≡ k → Puts (counts_text (tabulate l f)) o p
    → Puts (counts_text (tabulate k f)) o p
counts_done l k f h x = puts_same (ap (λ m. counts_text (tabulate m f)) h) x
