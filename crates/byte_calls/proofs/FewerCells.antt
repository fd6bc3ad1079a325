-- A planner lent as many cells as a sheet may have links gives the caller what one lent more gives: the cells past them
-- are zero.
use mathlib.Core.Path.{◌≡◌, refl, sym, ap, ◌∙◌}
use mathlib.Core.Bool.{Bool, true, false}
use mathlib.Core.List.{List}
use Prim.Native.Nat.{ℕ, ◌≤◌, min}
use native.Mathlib.Nat.{min-eq_left, min_comm}
use native.Mathlib.Omega.{arith}
use lib.Dec.{eqb, ltb, leb}
use lib.ListN.{length, get_or, get_or-eq_default}
use borrow.Author.Tests.{eqb-true, eqb-false, ltb-true, ltb-false, le-leb, le-ltb}
use Rattle.sets.specs.Below.{tabulate}
use Rattle.sets.proofs.Tests.{bool}
use Rattle.sets.proofs.Lists.{length_tabulate, get_d_tabulate}
use Rattle.channels.specs.Channels.{channels_ok}
use Rattle.sheet_rows.specs.Form.{hall_links, most_links}
use Rattle.sheet.specs.Sheet.{k_of}
use Rattle.sheet.specs.Refusal.{refusal, passing}
use Rattle.sheet.proofs.Accepted.{accepted}
use Rattle.rules.specs.Job.{Job}
use Rattle.rules.specs.Plans.{cells_of, keeps_job, yes_no, checked}
use Rattle.graph.proofs.Matches.{keeps_same_job}
use Rattle.search.specs.Limit.{Answer, plan, none, stopped, answer}
use Rattle.zeros.specs.Zeros.{zeros}
use Rattle.zeros.proofs.Zeros.{zeros_at}
use Rattle.cells.specs.Cells.{cell_of, plan_cells}
use Rattle.setting.specs.Setting.{Setting}
use Rattle.planner.specs.Outcome.{Outcome, setting_cause, call_refusal, tree_of, outcome_of, refused, outcome}
use Rattle.planner.proofs.Accepted.{call_accepted}
use Rattle.planner.proofs.Outcomes.{outcome_refused, outcome_accepted}
use Rattle.hall_plan.specs.Hall.{is_festival, hall_outcome}
use Rattle.hall_plan.proofs.Hall.{hall_links_lem}
use Rattle.number_bytes.proofs.NumberBytes.{same_bytes}
use Rattle.byte_calls.specs.ByteCalls.{call_number, Handed}

-- two outcomes that the caller cannot tell apart
pub record Alike (o p : Outcome) : Type 0 where
  pub answer : o.answer ≡ p.answer
  pub nodes : o.nodes ≡ p.nodes
  pub cells : (i : ℕ) → get_or o.cells i 0 ≡ get_or p.cells i 0

zeros_alike : (m r i : ℕ) → get_or (zeros r) i 0 ≡ get_or (zeros m) i 0
zeros_alike m r i = zeros_at r i ∙ sym (zeros_at m i)

-- a tabled function that is 0 from k on, read anywhere
pub get_or_tabled : (m k : ℕ) (f : ℕ → ℕ) → k ≤ m → ((i : ℕ) → k ≤ i → f i ≡ 0) → (i : ℕ) → get_or (tabulate m f) i 0 ≡ f i
get_or_tabled m k f h z i = go (ltb i m) refl
  where
    go : (b : Bool) → ltb i m ≡ b → get_or (tabulate m f) i 0 ≡ f i
    go true q = get_d_tabulate m f i 0 (ltb-true i m q)
    go false q =
        let l = ltb-false i m q in
        get_or-eq_default (tabulate m f) 0 (rw length_tabulate l) ∙ sym (z i (omega arith))

-- the lesser of two numbers against a third that is not above the second
pub lesser : (x m most r : ℕ) → r ≡ min m most → x ≤ most → leb x r ≡ leb x m
lesser x m most r e h = bool (ltb m most)
    (λ q. ap (leb x) (e ∙ min-eq_left (omega (arith, ltb-true m most q))))
    (λ q.
    let l = ltb-false m most q in
    let f : r ≡ most = e ∙ min_comm m most ∙ min-eq_left l in
    le-leb x r (omega arith) ∙ sym (le-leb x m (omega arith)))

-- no accepted sheet has more than `most` links
module _ (job : Job) (x : Setting) (w most : ℕ) (few : refusal job.sheet ≡ 0 → k_of job.sheet ≤ most) where
  abbrev s : List ℕ
  s = job.sheet

  module _ (m r : ℕ) (hm : most ≤ m) (hr : most ≤ r) where
    same_cause : call_refusal job x r w ≡ call_refusal job x m w
    unfolding call_refusal setting_cause
    same_cause = go (eqb (refusal s) 0) refl
      where
        go : (b : Bool) → eqb (refusal s) 0 ≡ b
            → passing b (refusal s) (λ _. setting_cause job x r w)
            ≡ passing b (refusal s) (λ _. setting_cause job x m w)
        go true q =
            let a = few (eqb-true (refusal s) 0 q) in
            rw (le-leb (k_of s) m (omega arith), le-leb (k_of s) r (omega arith)) refl
        go false q = refl

    answer_alike : k_of s ≤ most → (a : Answer) → Alike (outcome_of job r a) (outcome_of job m a)
    unfolding plan_cells cell_of
    answer_alike h (plan p t) =
        record { answer = refl; nodes = refl; cells = λ i. one r hr i ∙ sym (one m hm i) }
      where
        one : (y : ℕ) → most ≤ y → (i : ℕ) → get_or (tabulate y (cell_of job p)) i 0 ≡ cell_of job p i
        one y hy = get_or_tabled y (k_of s) (cell_of job p) (omega arith) (λ i g. rw (le-ltb i (k_of s) g) refl)
    answer_alike h (none t) = record { answer = refl; nodes = refl; cells = zeros_alike m r }
    answer_alike h (stopped t) = record { answer = refl; nodes = refl; cells = zeros_alike m r }

    outcome_alike : Alike (outcome job x r w) (outcome job x m w)
    outcome_alike = go (eqb (call_refusal job x m w) 0) refl
      where
        go : (b : Bool) → eqb (call_refusal job x m w) 0 ≡ b → Alike (outcome job x r w) (outcome job x m w)
        go true q =
            let e = eqb-true (call_refusal job x m w) 0 q in
            rw (outcome_accepted job x r w (same_cause ∙ e), outcome_accepted job x m w e)
            (answer_alike (few (call_accepted job x m w e).sheet) (answer x.limit (tree_of job x)))
        go false q =
            let ne = eqb-false (call_refusal job x m w) 0 q in
            rw (outcome_refused job x r w (λ i. ne (sym same_cause ∙ i)), outcome_refused job x m w ne)
            (record { answer = same_cause; nodes = refl; cells = zeros_alike m r })

  -- the planner lent the lesser of m and `most` cells: its causes, and what it gives
  pub lent_cause : (m r : ℕ) → r ≡ min m most → call_refusal job x r w ≡ call_refusal job x m w
  lent_cause m r e = bool (ltb m most)
      (λ q. ap (λ y. call_refusal job x y w) (e ∙ min-eq_left (omega (arith, ltb-true m most q))))
      (λ q. let h = ltb-false m most q in
      same_cause m r h (rw (e ∙ min_comm m most ∙ min-eq_left h) (omega arith)))

  pub lent_alike : (m r : ℕ) → r ≡ min m most → Alike (outcome job x r w) (outcome job x m w)
  lent_alike m r e = go (ltb m most) refl
    where
      go : (b : Bool) → ltb m most ≡ b → Alike (outcome job x r w) (outcome job x m w)
      go true q =
          rw (e ∙ min-eq_left (omega (arith, ltb-true m most q)))
          (record { answer = refl; nodes = refl; cells = λ i. refl })
      go false q =
          let h = ltb-false m most q in
          outcome_alike m r h (rw (e ∙ min_comm m most ∙ min-eq_left h) (omega arith))

-- no accepted sheet has more links than any form allows
pub few_links : (s : List ℕ) → refusal s ≡ 0 → k_of s ≤ most_links
few_links s ok = (accepted s ok).head.k_small

-- the console's planner, whose sheets have the links of a hall
pub hall_alike : (job : Job) (x : Setting) (w m r : ℕ) → r ≡ min m hall_links
    → Alike (hall_outcome job x r w) (hall_outcome job x m w)
unfolding hall_outcome
hall_alike job x w m r e = go (is_festival job.sheet) refl
  where
    go : (b : Bool) → is_festival job.sheet ≡ b
        → Alike (elim b [ true ↦ refused 3 r | false ↦ outcome job x r w ])
        (elim b [ true ↦ refused 3 m | false ↦ outcome job x m w ])
    go true q = record { answer = refl; nodes = refl; cells = zeros_alike m r }
    go false q = lent_alike job x w hall_links (hall_links_lem job.sheet q) m r e

-- what the caller is handed
pub alike_handed : {o p : Outcome} {room r : ℕ} {bytes : List ℕ} → Alike o p → Handed o room r bytes
    → Handed p room r bytes
unfolding call_number
alike_handed {room = room} h H = record {
  number = H.number ∙ rw (h.answer, h.nodes) refl;
  bytes = H.bytes ∙ same_bytes 4 room _ _ h.cells;
}

-- the check reads no cell past the links of a festival
module _ (job : Job) (g : ℕ → ℕ) (m r : ℕ) where
  abbrev sheet : List ℕ
  sheet = job.sheet

  enough_checked : most_links ≤ m → most_links ≤ r → checked job (tabulate r g) ≡ checked job (tabulate m g)
  unfolding checked
  enough_checked hm hr = go (eqb (refusal sheet) 0) refl
    where
      says : ℕ → ℕ
      says y =
          passing (leb (k_of sheet) (length (tabulate y g))) 10 λ _.
          passing (channels_ok job.channels) 17 λ _. yes_no (keeps_job job (cells_of (tabulate y g)))

      go : (b : Bool) → eqb (refusal sheet) 0 ≡ b
          → passing b (refusal sheet) (λ _. says r) ≡ passing b (refusal sheet) (λ _. says m)
      go true q =
          let ok = eqb-true (refusal sheet) 0 q in
          let k = few_links sheet ok in
          let e = le-leb (k_of sheet) r (omega arith) in
          let f = le-leb (k_of sheet) m (omega arith) in
          rw (length_tabulate r g, length_tabulate m g, e, f)
          (ap (λ b. passing (channels_ok job.channels) 17 λ _. yes_no b)
          (keeps_same_job job ok (cells_of (tabulate r g)) (cells_of (tabulate m g))
          (λ l h. get_d_tabulate r g l 0 (omega arith) ∙ sym (get_d_tabulate m g l 0 (omega arith)))))
      go false q = refl

  pub lent_checked : r ≡ min m most_links → checked job (tabulate r g) ≡ checked job (tabulate m g)
  lent_checked e = go (ltb m most_links) refl
    where
      go : (b : Bool) → ltb m most_links ≡ b → checked job (tabulate r g) ≡ checked job (tabulate m g)
      go true q = ap (λ y. checked job (tabulate y g)) (e ∙ min-eq_left (omega (arith, ltb-true m most_links q)))
      go false q =
          let h = ltb-false m most_links q in
          enough_checked h (rw (e ∙ min_comm m most_links ∙ min-eq_left h) (omega arith))
