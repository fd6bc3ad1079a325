-- No call is refused by a number above 17; so the call of a plan that was found was accepted.
use mathlib.Core.Path.{◌≡◌, refl, ap}
use mathlib.Core.Bool.{Bool, true, false}
use Prim.Native.Nat.{ℕ, ◌≤◌}
use native.Mathlib.Omega.{arith}
use lib.Dec.{eqb, leb}
use borrow.Author.Tests.{eqb-true, eqb-false}
use Rattle.channels.specs.Channels.{channels_ok}
use Rattle.sheet.specs.Sheet.{k_of}
use Rattle.sheet.specs.Refusal.{refusal}
use Rattle.sheet.proofs.Causes as Causes
use Rattle.sheet.proofs.Causes.{passing_most, unless_most}
use Rattle.sheet.proofs.Accepted.{refusal_most}
use Rattle.rules.specs.Job.{Job}
use Rattle.setting.specs.Setting.{Setting, setting_ok}
use Rattle.work_words.specs.Layout.{work_words}
use Rattle.work_words.specs.Classes.{list_ok}
use Rattle.planner.specs.Outcome.{outcome, call_refusal, setting_cause}
use Rattle.planner.specs.Planned.{refusal_number}
use Rattle.planner.specs.declared.Refusal.{Refusal}
use Rattle.planner.specs.declared.Refusal.TheVariants.{Sheet, FewCells, FewWords, Channels, FewCounts}
use Rattle.planner.specs.declared.Refusal.TheVariants as RefusedFor
use Rattle.planner.proofs.Outcomes.{outcome_refused}

-- no refusal has the number of another answer
pub refusal_few : (r : Refusal) → refusal_number r ≤ 19
refusal_few (Sheet cause) = omega (arith, Causes.cause_most cause)
refusal_few RefusedFor.Setting = omega arith
refusal_few FewCells = omega arith
refusal_few FewWords = omega arith
refusal_few Channels = omega arith
refusal_few RefusedFor.List = omega arith
refusal_few FewCounts = omega arith

module _ (job : Job) (x : Setting) (m w : ℕ) where
  pub cause_most : call_refusal job x m w ≤ 17
  unfolding call_refusal setting_cause
  cause_most =
      let r = refusal_most job.sheet in
      passing_most (eqb (refusal job.sheet) 0) (refusal job.sheet) 17 _ (omega arith)
      (passing_most (setting_ok x) 9 17 _ (omega arith)
      (passing_most (leb (k_of job.sheet) m) 10 17 _ (omega arith)
      (passing_most (leb (work_words job.sheet) w) 11 17 _ (omega arith)
      (passing_most (channels_ok job.channels) 17 17 _ (omega arith)
      (unless_most (list_ok job x) 12 17 (omega arith))))))

  pub found_accepted : (outcome job x m w).answer ≡ 100 → call_refusal job x m w ≡ 0
  found_accepted e = go (eqb (call_refusal job x m w) 0) refl
    where
      go : (b : Bool) → eqb (call_refusal job x m w) 0 ≡ b → call_refusal job x m w ≡ 0
      go true q = eqb-true _ 0 q
      go false q =
          let r = ap (λ y. y.answer) (outcome_refused job x m w (eqb-false _ 0 q)) in
          absurd (omega (arith, cause_most))
