-- A library lent 128 cells and 16,384 places gives the caller what one lent more gives: a sheet has at most 128 links,
-- and the places past the table are zero.
use mathlib.Core.Path.{◌≡◌, refl, sym, ap, ◌∙◌}
use mathlib.Core.Bool.{Bool, true, false}
use mathlib.Core.List.{List}
use Prim.Native.Nat.{ℕ, ◌*◌, ◌≤◌, ◌<◌, min}
use native.Mathlib.Nat.{min-eq_left, min_comm}
use native.Mathlib.Omega.{arith}
use lib.Dec.{eqb, ltb, leb}
use lib.IntN.{ℤ, pos}
use lib.ListN.{get_or}
use borrow.Author.Tests.{eqb-true, ltb-true, ltb-false}
use Rattle.sets.specs.Below.{tabulate}
use Rattle.sets.proofs.Tests.{bool}
use Rattle.sets.proofs.Lists.{length_tabulate, get_d_tabulate, tabulate_same}
use Rattle.sheet.specs.Sheet.{k_of}
use Rattle.sheet.specs.Refusal.{refusal, passing}
use Rattle.sheet.proofs.Accepted.{accepted}
use Rattle.rules.specs.Job.{Job}
use Rattle.rules.specs.Plans.{cells_of, checked}
use Rattle.spares.specs.Table.{Tabled}
use Rattle.spares.specs.Spares.{answer_for, judged, shown, place_left}
use Rattle.spares.proofs.Laws.{few_places, judged_checked, at_first_k, listed_first_k, left_past}
use Rattle.number_bytes.proofs.NumberBytes.{same_bytes}
use Rattle.byte_calls.specs.ByteCalls.{cell_bytes}
use Rattle.byte_calls.proofs.FewerCells.{get_or_tabled, lesser, lent_checked}
use Rattle.spares_bytes.specs.SparesBytes.{bits32, table_bits}

-- the lesser of two numbers is not below a third that neither is below
lesser_le : (x m most r : ℕ) → r ≡ min m most → x ≤ most → x ≤ m → x ≤ r
lesser_le x m most r e h l = bool (ltb m most)
    (λ q. let f : r ≡ m = e ∙ min-eq_left (omega (arith, ltb-true m most q)) in omega arith)
    (λ q. let f : r ≡ most = e ∙ min_comm m most ∙ min-eq_left (ltb-false m most q) in omega arith)

module _ (job : Job) (g : ℕ → ℕ) (m r places room : ℕ) (cells : r ≡ min m 128) (lent : room ≡ min places 16384) where
  pub answer_lent : answer_for job (tabulate r g) room ≡ answer_for job (tabulate m g) places
  unfolding answer_for
  answer_lent = go (eqb (refusal job.sheet) 0) refl
    where
      says : List ℕ → ℕ → ℕ
      says c y = passing (leb (k_of job.sheet * k_of job.sheet) y) 10 λ _. checked job c

      go : (b : Bool) → eqb (refusal job.sheet) 0 ≡ b
          → passing b (refusal job.sheet) (λ _. says (tabulate r g) room)
          ≡ passing b (refusal job.sheet) (λ _. says (tabulate m g) places)
      go true q =
          let k = (accepted job.sheet (eqb-true (refusal job.sheet) 0 q)).head.k_small in
          rw (
            lesser (k_of job.sheet * k_of job.sheet) places 16384 room lent (few_places (k_of job.sheet) k),
            lent_checked job g m r cells,
          )
      go false q = refl

  -- the first k cells are the same
  module _ (J : judged (answer_for job (tabulate m g) places) ≡ true) where
    first_k : (l : ℕ) → l < k_of job.sheet → cells_of (tabulate r g) l ≡ cells_of (tabulate m g) l
    first_k l h =
        let o = judged_checked job (tabulate m g) places J in
        let k = (accepted job.sheet o.0).head.k_small in
        let e : k_of job.sheet ≤ m = rw (length_tabulate m g) at o.1 in
        let d = lesser_le (k_of job.sheet) m 128 r cells k e in
        get_d_tabulate r g l 0 (omega arith) ∙ sym (get_d_tabulate m g l 0 (omega arith))

    left_same : (i : ℕ) → place_left job (tabulate r g) room i ≡ place_left job (tabulate m g) places i
    unfolding place_left shown
    left_same i =
        let o = judged_checked job (tabulate m g) places J in
        rw (
          answer_lent,
          listed_first_k job.sheet (tabulate r g) (tabulate m g) first_k,
          at_first_k job.sheet (tabulate r g) (tabulate m g) (accepted job.sheet o.0).head.k_some first_k i,
        )

  left_lent : (i : ℕ) → place_left job (tabulate r g) room i ≡ place_left job (tabulate m g) places i
  unfolding place_left shown
  left_lent i = bool (judged (answer_for job (tabulate m g) places)) (λ J. left_same J i) (λ e. rw (answer_lent, e))

  -- a place of the table, whether lent or past what is lent
  place_lent : (i : ℕ) → get_or (table_bits job (tabulate r g) room) i 0 ≡ get_or (table_bits job (tabulate m g) places) i 0
  unfolding table_bits bits32
  place_lent i = bool (ltb places 16384)
      (λ q.
      let e : room ≡ places = lent ∙ min-eq_left (omega (arith, ltb-true places 16384 q)) in
      ap (λ (t : List ℕ). get_or t i 0) (tabulate_same room _ (λ i. bits32 (place_left job (tabulate m g) places i))
      (λ j l. ap bits32 (left_lent j)) ∙ ap (λ y. tabulate y (λ i. bits32 (place_left job (tabulate m g) places i))) e))
      (λ q.
      let l = ltb-false places 16384 q in
      let e : room ≡ 16384 = lent ∙ min_comm places 16384 ∙ min-eq_left l in
      get_or_tabled room 16384 _ (omega arith) (λ j h. ap bits32 (left_past job (tabulate r g) room j h)) i
      ∙ ap bits32 (left_lent i)
      ∙ sym (get_or_tabled places 16384 _ l (λ j h. ap bits32 (left_past job (tabulate m g) places j h)) i))

  pub bytes_lent : (n : ℕ) → cell_bytes (table_bits job (tabulate r g) room) n
      ≡ cell_bytes (table_bits job (tabulate m g) places) n
  bytes_lent n = same_bytes 4 n _ _ place_lent

-- the bits of a table that is left
pub table_bits_lem : (job : Job) (cells : List ℕ) (room : ℕ) (p : List ℤ) → Tabled (place_left job cells room) room p
    → tabulate room (λ i. bits32 (get_or p i (pos 0))) ≡ table_bits job cells room
unfolding table_bits
table_bits_lem job cells room p T = tabulate_same room _ _ (λ i h. ap bits32 (T.each i h))
