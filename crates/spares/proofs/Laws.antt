-- Laws of the answer, of the places of the table, and of a table that is written place by place.
use Rattle.std.proofs.Common.{ℕ, ◌*◌, ◌/◌, ◌%◌, ◌≤◌, ◌<◌, ◌≡◌, refl, sym, ap, ◌∙◌, Bool, true, false, ◌&&◌, List, arith, mul-le-mul, mod-lt, div-lt_iff_lt-mul, eqb, ltb, leb, ℤ, pos, length, eqb-true, ltb-true, leb-true, eq-eqb, ne_eqb, le-leb, le-ltb, lt-ltb, Result, Ok, Err, is_ok, replicate}
use mir.Syntax.{w32}
use mir.Val.{SFits}
use borrow.Author.Tests.{eqb-false, lt-leb}
use Rattle.std.proofs.lemmas.List.{get_or-replicate, length-replicate}
use Rattle.sets.specs.Below.{all}
use Rattle.sets.proofs.Tests.{bool, clash, and_l}
use Rattle.sets.proofs.Below.{all_same}
use Rattle.sheet_rows.specs.Form.{most_links}
use Rattle.sheet.specs.Sheet.{k_of, freq_part}
use Rattle.sheet.specs.Refusal.{cause_number, passing, refusal}
use Rattle.sheet.specs.declared.Cause.{Cause}
use Rattle.sheet.proofs.Causes.{cause_some, cause_most}
use Rattle.sheet.proofs.Accepted.{accepted, refusal_most}
use Rattle.spacing.specs.Spacing.{in_range}
use Rattle.pair_test.proofs.Laws.{parts_of}
use Rattle.spacing.proofs.Spacing.{range_fits}
use Rattle.pair_test.proofs.Pairing.{spare_range}
use Rattle.rules.specs.Job.{Job}
use Rattle.rules.specs.declared.CheckRefusal.{CheckRefusal}
use Rattle.rules.specs.declared.CheckRefusal.TheVariants.{Sheet, FewCells, Channels}
use Rattle.rules.specs.Plans.{has_freq, in_lists, spare_taken, cells_of, checked, check_number}
use Rattle.rules.specs.Asked.{Taken, cell_listed, cells_spare}
use Rattle.rules.proofs.Laws.{cell_taken, vertex_in_lem}
use Rattle.spares.specs.Table.{spare_of, spare_at, Tabled}
use Rattle.spares.specs.Spares.{answer_for, judged, shown, place_left}

-- k × k places
pub few_places : (k : ℕ) → k ≤ most_links → k * k ≤ 16384
few_places k h = mul-le-mul h h

-- the answer

pub answer_refused : (job : Job) (cells : List ℕ) (room : ℕ) (x : Cause) → cause_number x ≡ refusal job.sheet
    → cause_number x ≡ answer_for job cells room
unfolding answer_for
answer_refused job cells room x h =
    let o = cause_some x in rw (← h, ne_eqb (cause_number x) 0 (λ z. omega arith))

pub answer_few : (job : Job) (cells : List ℕ) (room : ℕ) → refusal job.sheet ≡ 0
    → room < k_of job.sheet * k_of job.sheet → 10 ≡ answer_for job cells room
unfolding answer_for
answer_few job cells room e h = rw (e, lt-leb (k_of job.sheet * k_of job.sheet) room h)

pub answer_checked : (job : Job) (cells : List ℕ) (room : ℕ) → refusal job.sheet ≡ 0
    → k_of job.sheet * k_of job.sheet ≤ room → checked job cells ≡ answer_for job cells room
unfolding answer_for
answer_checked job cells room e h = rw (e, le-leb (k_of job.sheet * k_of job.sheet) room h)

-- a cause is no answer to cells that were judged
pub judged_not : (x : ℕ) → 0 < x → x ≤ 17 → judged x ≡ false
unfolding judged
judged_not x h l = rw (ne_eqb x 0 (λ e. omega arith), ne_eqb x 100 (λ e. omega arith))

-- the answers that are no refusal
pub judged_ok : (r : Result Bool CheckRefusal) → is_ok r ≡ judged (check_number r)
unfolding judged
judged_ok (Ok true) = refl
judged_ok (Ok false) = refl
judged_ok (Err FewCells) = sym (judged_not 10 (omega arith) (omega arith))
judged_ok (Err Channels) = sym (judged_not 17 (omega arith) (omega arith))
judged_ok (Err (Sheet x)) = sym (judged_not _ (cause_some x) (omega (arith, cause_most x)))

-- judged cells are enough for the links of an accepted sheet
pub judged_checked : (job : Job) (cells : List ℕ) (room : ℕ) → judged (answer_for job cells room) ≡ true
    → (refusal job.sheet ≡ 0) × (k_of job.sheet ≤ length cells)
unfolding answer_for checked
judged_checked job cells room h = bool (eqb (refusal job.sheet) 0)
    (λ e. bool (leb (k_of job.sheet) (length cells))
    (λ l. (eqb-true (refusal job.sheet) 0 e, leb-true (k_of job.sheet) (length cells) l))
    (λ l. let z = rw (e, l) at h in few (leb (k_of job.sheet * k_of job.sheet) room) z))
    (λ e. let z = rw e at h in
    let ne = eqb-false (refusal job.sheet) 0 e in
    clash _ z (judged_not (refusal job.sheet) (omega (arith, ne)) (omega (arith, refusal_most job.sheet))))
  where
    few : (b : Bool) → judged (passing b 10 (λ _. 10)) ≡ true
        → (refusal job.sheet ≡ 0) × (k_of job.sheet ≤ length cells)
    few true z = clash _ z (judged_not 10 (omega arith) (omega arith))
    few false z = clash _ z (judged_not 10 (omega arith) (omega arith))

-- the places of the table

pub at_past : (s cells : List ℕ) (i : ℕ) → k_of s * k_of s ≤ i → pos 0 ≡ spare_at s cells i
unfolding spare_at
at_past s cells i h = rw (le-ltb i (k_of s * k_of s) h)

pub at_same : (s cells : List ℕ) (i : ℕ) → i < k_of s * k_of s → i / k_of s ≡ i % k_of s → pos 0 ≡ spare_at s cells i
unfolding spare_at spare_of
at_same s cells i h e = rw (lt-ltb i (k_of s * k_of s) h, eq-eqb (i / k_of s) (i % k_of s) e)

pub at_two : (s cells : List ℕ) (i : ℕ) → i < k_of s * k_of s → (i / k_of s ≡ i % k_of s → ⊥)
    → cells_spare s cells (i / k_of s) (i % k_of s) ≡ spare_at s cells i
unfolding spare_at spare_of
at_two s cells i h e = rw (lt-ltb i (k_of s * k_of s) h, ne_eqb (i / k_of s) (i % k_of s) e)

-- row and column of a place are links
pub row_lt : (k i : ℕ) → 0 < k → i < k * k → i / k < k
row_lt k i o h = (div-lt_iff_lt-mul o).1 h

-- what the cells of two links have to spare is in the range of the pair test, so it is an `i32`
pub cells_range : {s cells : List ℕ} {a b : ℕ} → Taken s cells → a < k_of s → b < k_of s
    → in_range (cells_spare s cells a b) ≡ true
unfolding spare_taken
cells_range {s} {cells} {a} {b} t x y =
    spare_range (parts_of s t.accepted) a b _ _ x y (vertex_in_lem _ _ _ _ (cell_taken t x).listed)
    (vertex_in_lem _ _ _ _ (cell_taken t y).listed)

pub cells_fit : {s cells : List ℕ} {a b : ℕ} → Taken s cells → a < k_of s → b < k_of s
    → SFits w32 (cells_spare s cells a b)
cells_fit {s} {cells} {a} {b} t x y = range_fits (cells_spare s cells a b) (cells_range t x y)

-- a table of zeros
pub tabled_zero : (room : ℕ) (p : List ℤ) → p ≡ replicate room (pos 0) → Tabled (λ _. pos 0) room p
tabled_zero room p e = record {
  size = rw e (length-replicate room (pos 0));
  each = λ i h. rw e (get_or-replicate room i (pos 0) (pos 0) h);
}

-- a table of one function is a table of another with the same places
pub tabled_as : {f g : ℕ → ℤ} {room : ℕ} {p : List ℤ} → ((i : ℕ) → i < room → f i ≡ g i) → Tabled f room p
    → Tabled g room p
tabled_as e T = record { size = T.size; each = λ i h. T.each i h ∙ e i h }

-- the table that is left: it is shown where the answer and the lists say so
pub shown_judged : (job : Job) (cells : List ℕ) (room : ℕ) → shown job cells room ≡ true
    → judged (answer_for job cells room) ≡ true
unfolding shown
shown_judged job cells room e = and_l (judged (answer_for job cells room)) _ e

pub shown_is : (job : Job) (cells : List ℕ) (room number : ℕ) → number ≡ answer_for job cells room
    → judged number && all (k_of job.sheet) (cell_listed job.sheet cells) ≡ shown job cells room
unfolding shown
shown_is job cells room number e = rw e refl

pub left_shown : (job : Job) (cells : List ℕ) (room i : ℕ) → shown job cells room ≡ true
    → spare_at job.sheet cells i ≡ place_left job cells room i
unfolding place_left
left_shown job cells room i e = rw e refl

pub left_hidden : (job : Job) (cells : List ℕ) (room i : ℕ) → shown job cells room ≡ false
    → pos 0 ≡ place_left job cells room i
unfolding place_left
left_hidden job cells room i e = rw e refl

-- only the first k cells are read

pub at_first_k : (s : List ℕ) (c d : List ℕ) → 0 < k_of s → ((l : ℕ) → l < k_of s → cells_of c l ≡ cells_of d l) → (i : ℕ)
    → spare_at s c i ≡ spare_at s d i
unfolding spare_at spare_of spare_taken
at_first_k s c d o h i = bool (ltb i (k_of s * k_of s))
    (λ e. let l = ltb-true i (k_of s * k_of s) e in
    rw (e, h (i / k_of s) (row_lt (k_of s) i o l), h (i % k_of s) (mod-lt i o)))
    (λ e. rw e)

pub listed_first_k : (s : List ℕ) (c d : List ℕ) → ((l : ℕ) → l < k_of s → cells_of c l ≡ cells_of d l)
    → all (k_of s) (cell_listed s c) ≡ all (k_of s) (cell_listed s d)
unfolding in_lists
listed_first_k s c d h = all_same (k_of s) _ _ (λ l i. ap (has_freq s (freq_part s) l) (h l i))

-- no place past the 4,096th is anything but zero
pub left_past : (job : Job) (cells : List ℕ) (room i : ℕ) → 16384 ≤ i → place_left job cells room i ≡ pos 0
left_past job cells room i h = bool (shown job cells room)
    (λ e.
    let o = judged_checked job cells room (shown_judged job cells room e) in
    let k = few_places (k_of job.sheet) (accepted job.sheet o.0).head.k_small in
    sym (left_shown job cells room i e) ∙ sym (at_past job.sheet cells i (omega arith)))
    (λ e. sym (left_hidden job cells room i e))
