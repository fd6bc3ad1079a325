-- What an accepted call guarantees: the causes that it has passed.
use mathlib.Core.Path.{◌≡◌, refl}
use mathlib.Core.Bool.{Bool, true, false, ◌&&◌}
use Prim.Native.Nat.{ℕ, ◌≤◌}
use lib.Dec.{eqb, ltb, leb, lit<}
use borrow.Author.Tests.{eqb-true, eq-eqb, leb-true}
use Rattle.sets.proofs.Tests.{clash, and_l, and_r}
use Rattle.channels.specs.Channels.{channels_ok}
use Rattle.sheet.specs.Sheet.{k_of}
use Rattle.sheet.specs.Refusal.{refusal, passing}
use Rattle.sheet.proofs.Causes.{passed, unless_zero}
use Rattle.rules.specs.Job.{Job}
use Rattle.setting.specs.Setting.{Setting, most_nodes, in_range, setting_ok}
use Rattle.work_words.specs.Layout.{work_words}
use Rattle.work_words.specs.Classes.{list_ok}
use Rattle.planner.specs.Outcome.{setting_cause, call_refusal}

pub record Call (job : Job) (x : Setting) (m w : ℕ) : Type 0 where
  pub sheet : refusal job.sheet ≡ 0
  pub setting : setting_ok x ≡ true
  pub cells : k_of job.sheet ≤ m
  pub work : work_words job.sheet ≤ w
  pub channels : channels_ok job.channels ≡ true
  pub list : list_ok job x ≡ true

pub call_accepted : (job : Job) (x : Setting) (m w : ℕ) → call_refusal job x m w ≡ 0 → Call job x m w
unfolding call_refusal setting_cause
call_accepted job x m w e =
    let a = first_cause (eqb (refusal job.sheet) 0) refl e in
    let b = passed (setting_ok x) 9 _ (lit< tt) a.1 in
    let c = passed (leb (k_of job.sheet) m) 10 _ (lit< tt) b.1 in
    let d = passed (leb (work_words job.sheet) w) 11 _ (lit< tt) c.1 in
    let f = passed (channels_ok job.channels) 17 _ (lit< tt) d.1 in
    record {
      sheet = a.0;
      setting = b.0;
      cells = leb-true (k_of job.sheet) m c.0;
      work = leb-true (work_words job.sheet) w d.0;
      channels = f.0;
      list = unless_zero (list_ok job x) 12 (lit< tt) f.1;
    }
  where
    first_cause : (b : Bool) → eqb (refusal job.sheet) 0 ≡ b
        → passing b (refusal job.sheet) (λ _. setting_cause job x m w) ≡ 0
        → (refusal job.sheet ≡ 0) × (setting_cause job x m w ≡ 0)
    first_cause true h e = (eqb-true (refusal job.sheet) 0 h, e)
    first_cause false h e = (e, clash (eqb (refusal job.sheet) 0) (eq-eqb (refusal job.sheet) 0 e) h)

pub choice_small : (x : Setting) → setting_ok x ≡ true → x.choice ≤ 2
unfolding in_range
choice_small x h =
    let a = and_l (leb x.filter 7 && leb x.choice 2 && ltb 0 x.limit) (leb x.limit most_nodes) h in
    let b = and_l (leb x.filter 7 && leb x.choice 2) (ltb 0 x.limit) a in
    leb-true x.choice 2 (and_r (leb x.filter 7) (leb x.choice 2) b)
