-- Laws of the link section: a row that was read, the loop over the rows, and what an accepted section says of a link.
use Rattle.std.proofs.Common.{ℕ, ◌+◌, ◌≤◌, ◌<◌, ◌≡◌, ap, refl, sym, List, Bool, true, false, arith, eqb, ltb, Some, None, eqb-true, ltb-true, eq-eqb, ne_eqb}
use Rattle.sets.specs.Below.{all, sum_to}
use Rattle.sets.proofs.Tests.{and_out}
use Rattle.sets.proofs.Below.{all_in, all_out, all_false, sum_in}
use Rattle.sheet_rows.specs.Rows.{row_first, row_count, link_bytes, link_part, link_first, link_count}
use Rattle.sheet.specs.Sheet.{link_row_ok, link_ok, link_rows_ok, links_ok, RowRead, row_read, row_if, link_row}
use Rattle.sheet.specs.Sheet.{width_ok, width_rows_ok, widths_ok}
use Rattle.sheet.specs.declared.Row.{Row}

picked_link : (b : Bool) (f n : ℕ) (row : Row) → row_read (Some row) ≡ row_if b f n → (b ≡ true) × (n ≡ row.count)
picked_link true f n row e = (refl, sym (ap (λ (r : RowRead). r.count) e))
picked_link false f n row e = let z : ◌≡◌ {A = ℕ} 0 5 = ap (λ (r : RowRead). r.number) e in absurd (omega arith)

picked_bad : (b : Bool) (f n : ℕ) → row_read None ≡ row_if b f n → b ≡ false
picked_bad true f n e = let z : ◌≡◌ {A = ℕ} 5 0 = ap (λ (r : RowRead). r.number) e in absurd (omega arith)
picked_bad false f n e = refl

-- a row that was read is right at its place, or not
pub row_link : (bytes : ℕ) (p : List ℕ) (l sum : ℕ) (row : Row) → sum ≡ sum_to l (row_count bytes p)
    → row_read (Some row) ≡ link_row bytes p l sum → (link_ok bytes p l ≡ true) × (row_count bytes p l ≡ row.count)
unfolding link_ok
row_link bytes p l sum row e h =
    let o = picked_link (link_row_ok bytes p l sum) (row_first bytes p l) (row_count bytes p l) row h in
    (rw (← e) o.0, o.1)

pub row_bad : (bytes : ℕ) (p : List ℕ) (l sum : ℕ) → sum ≡ sum_to l (row_count bytes p)
    → row_read None ≡ link_row bytes p l sum → link_ok bytes p l ≡ false
unfolding link_ok
row_bad bytes p l sum e h =
    rw (← e) (picked_bad (link_row_ok bytes p l sum) (row_first bytes p l) (row_count bytes p l) h)

pub links_false : (bytes : ℕ) (p : List ℕ) (k n l : ℕ) → l < k → link_ok bytes p l ≡ false
    → link_rows_ok bytes p k n ≡ false
unfolding link_rows_ok
links_false bytes p k n l h e = rw (all_false k (link_ok bytes p) l h e)

-- all rows are right, and their counts sum to n, or not
pub links_true : (bytes : ℕ) (p : List ℕ) (k n sum : ℕ) → all k (link_ok bytes p) ≡ true
    → sum ≡ sum_to k (row_count bytes p) → sum ≡ n → link_rows_ok bytes p k n ≡ true
unfolding link_rows_ok
links_true bytes p k n sum h e d = rw (h, ← e) (eq-eqb sum n d)

pub sum_false : (bytes : ℕ) (p : List ℕ) (k n sum : ℕ) → all k (link_ok bytes p) ≡ true
    → sum ≡ sum_to k (row_count bytes p) → (sum ≡ n → ⊥) → link_rows_ok bytes p k n ≡ false
unfolding link_rows_ok
sum_false bytes p k n sum h e d = rw (h, ← e) (ne_eqb sum n d)

-- of a sheet whose link section is accepted
module _ (s : List ℕ) (k n : ℕ) (ok : links_ok s k n ≡ true) where
  link_row_lem : (l : ℕ) → l < k → (eqb (link_first s l) (sum_to l (link_count s)) ≡ true) × (ltb 0 (link_count s l) ≡ true)
  unfolding links_ok link_rows_ok link_ok link_first link_count
  link_row_lem l b =
      let w = and_out (all k (link_ok (link_bytes s) (link_part s))) (eqb (sum_to k (link_count s)) n) ok in
      and_out (eqb (link_first s l) (sum_to l (link_count s))) (ltb 0 (link_count s l))
      (all_out k (link_ok (link_bytes s) (link_part s)) w.0 l b)

  -- a link's first frequency is the sum of the earlier counts, and all counts sum to n
  pub link_first_lem : (l : ℕ) → l < k → link_first s l ≡ sum_to l (link_count s)
  link_first_lem l b = eqb-true (link_first s l) (sum_to l (link_count s)) (link_row_lem l b).0

  pub link_sum : sum_to k (link_count s) ≡ n
  unfolding links_ok link_rows_ok link_count
  link_sum = eqb-true (sum_to k (link_count s)) n
      (and_out (all k (link_ok (link_bytes s) (link_part s))) (eqb (sum_to k (link_count s)) n) ok).1

  -- a link has a frequency, and its frequencies are among the n
  pub link_some : (l : ℕ) → l < k → 0 < link_count s l
  link_some l b = ltb-true 0 (link_count s l) (link_row_lem l b).1

  pub link_in : (l : ℕ) → l < k → link_first s l + link_count s l ≤ n
  link_in l b = omega (arith, link_sum, link_first_lem l b, sum_in k l (link_count s) b)

-- rows of four bytes have no widths
pub no_widths : (s : List ℕ) (k : ℕ) → link_bytes s ≡ 4 → widths_ok s k ≡ true
unfolding widths_ok width_rows_ok width_ok
no_widths s k e = rw e (all_in k _ (λ l h. refl))
