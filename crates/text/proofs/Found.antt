-- The sheet of a plan that was found was accepted, and there is a cell for each of its links, no more than a hall has.
use mathlib.Core.Path.{◌≡◌, refl, sym, ap, ◌∙◌}
use mathlib.Core.Bool.{Bool, true, false}
use mathlib.Core.List.{List}
use Prim.Native.Nat.{ℕ, ◌≤◌}
use native.Mathlib.Omega.{arith}
use Rattle.sheet_rows.specs.Form.{hall_links}
use Rattle.sheet.specs.Sheet.{k_of}
use Rattle.sheet.specs.Refusal.{refusal}
use Rattle.rules.specs.Job.{job_of}
use Rattle.setting.specs.Setting.{Setting}
use Rattle.planner.specs.Outcome.{Outcome}
use Rattle.planner.specs.Planned.{Planned, Gives, verdict_number, gave}
use Rattle.planner.proofs.Accepted.{call_accepted}
use Rattle.planner.proofs.Outcomes.{gave_outcome}
use Rattle.planner.proofs.Found.{found_accepted}
use Rattle.hall_plan.specs.Hall.{is_festival, hall_outcome}
use Rattle.hall_plan.proofs.Hall.{hall_links_lem, hall_refused, hall_planned}
use Rattle.text.specs.Text.{printed_of}

module _ (s : List ℕ) (x : Setting) (m w : ℕ) where
  pub found_links : {r : Planned} {cells : List ℕ} → Gives (hall_outcome (job_of s) x m w) r cells
      → verdict_number r ≡ 100 → (refusal s ≡ 0) × (k_of s ≤ m) × (k_of s ≤ hall_links)
  found_links g e = go (is_festival s) refl
    where
      answer : (hall_outcome (job_of s) x m w).answer ≡ 100
      answer = sym g.answer ∙ e

      go : (b : Bool) → is_festival s ≡ b → (refusal s ≡ 0) × (k_of s ≤ m) × (k_of s ≤ hall_links)
      go true q =
          let three = ap (λ (o : Outcome). o.answer) (hall_refused (job_of s) x m w q) in
          absurd (omega (arith, answer))
      go false q =
          let same = ap (λ (o : Outcome). o.answer) (hall_planned (job_of s) x m w q) in
          let c = call_accepted (job_of s) x m w (found_accepted (job_of s) x m w (sym same ∙ answer)) in
          (c.sheet, c.cells, hall_links_lem s q c.sheet)

  -- the text of what was given is the text of the outcome
  pub given_text : {r : Planned} {cells : List ℕ} → Gives (hall_outcome (job_of s) x m w) r cells
      → printed_of (k_of s) (hall_outcome (job_of s) x m w) ≡ printed_of (k_of s) (gave r cells)
  given_text g = ap (λ o. printed_of (k_of s) o) (gave_outcome g)
