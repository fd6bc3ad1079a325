-- The outcome of a call, cause by cause, and of an accepted call.
use mathlib.Core.Path.{◌≡◌, refl, sym, ap, subst, ◌∙◌}
use mathlib.Core.Bool.{true, false}
use mathlib.Core.List.{List}
use Prim.Native.Nat.{ℕ, ◌≤◌, ◌<◌}
use native.Mathlib.Omega.{arith}
use lib.ListN.{length}
use borrow.Author.Tests.{ne_eqb, le-leb, lt-leb}
use Rattle.std.proofs.Common.{Err}
use Rattle.channels.specs.Channels.{channels_ok}
use Rattle.sheet.specs.Sheet.{k_of}
use Rattle.sheet.specs.Refusal.{cause_number, refusal, unless}
use Rattle.sheet.specs.declared.Cause.{Cause}
use Rattle.sheet.proofs.Causes.{cause_some}
use Rattle.rules.specs.Job.{Job}
use Rattle.search.specs.Limit.{answer}
use Rattle.zeros.specs.Zeros.{zeros}
use Rattle.setting.specs.Setting.{Setting, setting_with, setting_ok}
use Rattle.setting.specs.declared.Options.{Options}
use Rattle.work_words.specs.Layout.{work_words}
use Rattle.work_words.specs.Classes.{list_ok}
use Rattle.planner.specs.Outcome.{Outcome, setting_cause, call_refusal, tree_of, outcome_of, refused, unless_refused}
use Rattle.planner.specs.Outcome.{outcome}
use Rattle.planner.specs.Planned.{Planned, refusal_number, FirstCause, Gives, Ready, gave}
use Rattle.planner.specs.declared.Refusal.{Refusal}
use Rattle.planner.specs.declared.Refusal.TheVariants.{Sheet}

-- what was given is the outcome
pub gave_outcome : {o : Outcome} {r : Planned} {cells : List ℕ} → Gives o r cells → o ≡ gave r cells
gave_outcome g = sym (λ i. record { answer = g.answer i; nodes = g.nodes i; cells = g.cells i })

module _ (job : Job) (x : Setting) (m w : ℕ) where
  -- the sheet's causes
  pub sheet_cause : (refusal job.sheet ≡ 0 → ⊥) → call_refusal job x m w ≡ refusal job.sheet
  unfolding call_refusal
  sheet_cause ne = rw (ne_eqb (refusal job.sheet) 0 ne) refl

  setting_cause_lem : refusal job.sheet ≡ 0 → call_refusal job x m w ≡ setting_cause job x m w
  unfolding call_refusal
  setting_cause_lem e = rw e refl

  pub cause_9 : refusal job.sheet ≡ 0 → setting_ok x ≡ false → call_refusal job x m w ≡ 9
  unfolding setting_cause
  cause_9 e f = setting_cause_lem e ∙ rw f refl

  pub cause_10 : refusal job.sheet ≡ 0 → setting_ok x ≡ true → m < k_of job.sheet → call_refusal job x m w ≡ 10
  unfolding setting_cause
  cause_10 e f g = setting_cause_lem e ∙ rw (f, lt-leb (k_of job.sheet) m g) refl

  pub cause_11 : refusal job.sheet ≡ 0 → setting_ok x ≡ true → k_of job.sheet ≤ m → w < work_words job.sheet
      → call_refusal job x m w ≡ 11
  unfolding setting_cause
  cause_11 e f g h = setting_cause_lem e ∙ rw (f, le-leb (k_of job.sheet) m g, lt-leb (work_words job.sheet) w h) refl

  pub cause_17 : refusal job.sheet ≡ 0 → setting_ok x ≡ true → k_of job.sheet ≤ m → work_words job.sheet ≤ w
      → channels_ok job.channels ≡ false → call_refusal job x m w ≡ 17
  unfolding setting_cause
  cause_17 e f g h c = setting_cause_lem e
      ∙ rw (f, le-leb (k_of job.sheet) m g, le-leb (work_words job.sheet) w h, c) refl

  -- past cause 17 the caller's list decides
  pub cause_12 : refusal job.sheet ≡ 0 → setting_ok x ≡ true → k_of job.sheet ≤ m → work_words job.sheet ≤ w
      → channels_ok job.channels ≡ true → call_refusal job x m w ≡ unless (list_ok job x) 12
  unfolding setting_cause
  cause_12 e f g h c = setting_cause_lem e
      ∙ rw (f, le-leb (k_of job.sheet) m g, le-leb (work_words job.sheet) w h, c) refl

  pub outcome_refused : (call_refusal job x m w ≡ 0 → ⊥) → outcome job x m w ≡ refused (call_refusal job x m w) m
  unfolding outcome
  outcome_refused ne =
      ap (λ b. elim b [
        | true ↦ outcome_of job m (answer x.limit (tree_of job x))
        | false ↦ refused
            (call_refusal job x m w) m
      ])
      (ne_eqb (call_refusal job x m w) 0 ne)

  pub outcome_accepted : call_refusal job x m w ≡ 0
      → outcome job x m w ≡ outcome_of job m (answer x.limit (tree_of job x))
  unfolding outcome
  outcome_accepted e = ap (λ c. unless_refused c m (λ _. outcome_of job m (answer x.limit (tree_of job x)))) e

  -- a refusal: its number, 0 nodes and zero cells
  pub gives_refused : (r : Refusal) {cells : List ℕ} → call_refusal job x m w ≡ refusal_number r → 0 < refusal_number r
      → cells ≡ zeros m → Gives (outcome job x m w) (Err r) cells
  gives_refused r {cells} e h z =
      subst (λ o. Gives o (Err r) cells) (sym (outcome_refused (λ i. omega arith)))
      (record { answer = sym e; nodes = refl; cells = z })

-- the reader has refused the sheet, whatever else is lent
pub sheet_refused : (job : Job) (options : Options) (m w : ℕ) (cause : Cause) → cause_number cause ≡ refusal job.sheet
    → FirstCause job options m w (Err (Sheet cause))
sheet_refused job options m w cause e =
    let l = cause_some cause in
    (l, λ on callers. sheet_cause job (setting_with on options callers) m w (λ i. omega arith) ∙ sym e)

-- a call that has passed causes 1 to 11, 16 and 17, up to the caller's list
module _ {job : Job} {x : Setting} {chosen : ℕ} {cells : List ℕ} {w : ℕ} (R : Ready job x chosen cells w)
  where
    pub ready_cause : call_refusal job x (length cells) w ≡ unless (list_ok job x) 12
    ready_cause = cause_12 job x (length cells) w R.passed.sheet R.passed.setting R.enough
        R.passed.words R.passed.channels

    pub ready_accepted : list_ok job x ≡ true → call_refusal job x (length cells) w ≡ 0
    unfolding unless
    ready_accepted e = ready_cause ∙ rw e refl

    pub ready_refused : list_ok job x ≡ false → call_refusal job x (length cells) w ≡ 12
    unfolding unless
    ready_refused e = ready_cause ∙ rw e refl
