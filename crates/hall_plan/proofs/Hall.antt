-- The sheets that are planned in the buffers of a hall.
use mathlib.Core.Path.{◌≡◌, refl, sym, ap, subst, ◌∙◌}
use mathlib.Core.Bool.{Bool, true, false, ◌&&◌}
use mathlib.Core.List.{List}
use Prim.Native.Nat.{ℕ, ◌≤◌}
use native.Mathlib.Omega.{arith}
use lib.Dec.{eqb, lit<}
use Rattle.std.proofs.Common.{Err}
use Rattle.wire.specs.Fields.{le32}
use Rattle.sheet_rows.specs.Form.{hall_links}
use Rattle.sheet_rows.proofs.Rows.{hall_form}
use Rattle.sheet.specs.Sheet.{k_of}
use Rattle.sheet.specs.Refusal.{form_ok, link_count_ok, refusal}
use Rattle.sheet.specs.declared.Cause.TheVariants.{Counts}
use Rattle.sheet.proofs.Causes.{passed}
use Rattle.sheet.proofs.Accepted.{accepted}
use Rattle.rules.specs.Job.{Job}
use Rattle.zeros.specs.Zeros.{zeros}
use Rattle.setting.specs.Setting.{Setting}
use Rattle.planner.specs.Outcome.{refused, outcome}
use Rattle.planner.specs.Planned.{Planned, Gives}
use Rattle.planner.specs.declared.Refusal.TheVariants.{Sheet}
use Rattle.hall_plan.specs.Hall.{is_festival, hall_outcome}

-- an accepted sheet that is no festival's has the links of a hall
pub hall_links_lem : (s : List ℕ) → is_festival s ≡ false → refusal s ≡ 0 → k_of s ≤ hall_links
unfolding is_festival refusal
hall_links_lem s not_so ok =
    let a = passed (form_ok s) 1 _ (lit< tt) ok in
    let b = passed (link_count_ok s) 2 _ (lit< tt) a.1 in
    let e : eqb (le32 s 0) 3 ≡ false =
    sym (ap (λ (x : Bool). (x && link_count_ok s) && eqb (le32 s 0) 3) a.0
    ∙ ap (λ (x : Bool). x && eqb (le32 s 0) 3) b.0) ∙ not_so in
    omega (arith, (accepted s ok).head.k_few, hall_form (le32 s 0) e)

module _ (job : Job) (x : Setting) (m w : ℕ) where
  pub hall_refused : is_festival job.sheet ≡ true → hall_outcome job x m w ≡ refused 3 m
  unfolding hall_outcome
  hall_refused e = ap (λ b. elim b [ true ↦ refused 3 m | false ↦ outcome job x m w ]) e

  -- what the call says of such a sheet
  pub three_given : is_festival job.sheet ≡ true → {cells : List ℕ} → cells ≡ zeros m
      → Gives (hall_outcome job x m w) (Err (Sheet Counts)) cells
  three_given e {cells} z = subst (λ o. Gives o (Err (Sheet Counts)) cells) (sym (hall_refused e))
      (record { answer = refl; nodes = refl; cells = z })

  pub hall_planned : is_festival job.sheet ≡ false → hall_outcome job x m w ≡ outcome job x m w
  unfolding hall_outcome
  hall_planned e = ap (λ b. elim b [ true ↦ refused 3 m | false ↦ outcome job x m w ]) e

  pub planned_given : is_festival job.sheet ≡ false → {r : Planned} {cells : List ℕ}
      → Gives (outcome job x m w) r cells
      → Gives (hall_outcome job x m w) r cells
  planned_given e {r} {cells} g = subst (λ o. Gives o r cells) (sym (hall_planned e)) g
