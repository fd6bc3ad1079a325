-- Rows that are cut to the vertices that are left are the rows of the job's graph.
use Rattle.std.proofs.Common.{◌≡◌, refl, sym, ap, ◌∙◌, true, false, not, cond, List, ℕ, ◌≤◌, ◌<◌, arith, ltb, ltb-true}
use mathlib.Core.Path.{fun_ext}
use Rattle.sets.specs.Sets.{Set, ◌∩◌, ◌∖◌, nothing, whole}
use Rattle.sets.proofs.Tests.{bool, iff, and_l, and_in, and_false}
use Rattle.sets.proofs.Sets.{meet_l, meet_r, meet_in}
use Rattle.sheet.specs.Sheet.{n_of}
use Rattle.rules.specs.Job.{Job, job_of, struck, unstruck}
use Rattle.rows.specs.Rows.{set_at, row_at, Outside}
use Rattle.rows.proofs.Rows.{below}
use Rattle.graph.specs.Graph.{edge}
use Rattle.graph.specs.Rows.{Built}
use Rattle.rule_strikes.specs.Strikes.{stretch, Rewritten}
use Rattle.graph.proofs.Graph.{unstruck_in, unstruck_out, edge_in, edge_out}
use Rattle.rule_strikes.proofs.Spans.{stretch_in}
use Rattle.strikes.specs.Struck.{left_of}

module _ (job : Job) where
  abbrev n : ℕ
  n = n_of job.sheet

  -- every vertex without those that are struck
  pub all_struck : whole (n_of job.sheet) ∖ (stretch 0 (n_of job.sheet) ∩ struck job) ≡ unstruck job
  unfolding whole unstruck ◌∖◌ ◌∩◌
  all_struck = fun_ext (λ v. bool (ltb v n)
      (λ e. rw (e, stretch_in 0 n v (omega arith) (ltb-true v n e))
      (iff _ _ (λ h. and_in h refl) (and_l (not (struck job v)) true)))
      (λ e. rw e (sym (and_false (not (struck job v)) false refl))))

  pub left_none : (u : ℕ) (S : Set) → struck job u ≡ true → nothing ≡ left_of job u S
  unfolding left_of
  left_none u S e = sym (ap (λ b. cond b nothing (S ∩ unstruck job)) e)

  pub left_some : (u : ℕ) (S T : Set) → T ≡ unstruck job → struck job u ≡ false → S ∩ T ≡ left_of job u S
  unfolding left_of
  left_some u S T q e = ap (λ (X : Set). S ∩ X) q ∙ sym (ap (λ b. cond b nothing (S ∩ unstruck job)) e)

  -- what is left of a row of the sheet's graph
  left_edge : (u : ℕ) → left_of job u (edge (job_of job.sheet) u) ≡ edge job u
  unfolding nothing
  left_edge u = bool (struck job u)
      (λ e. sym (left_none u _ e) ∙ fun_ext (λ v. rw e refl))
      (λ e. sym (left_some u _ (unstruck job) refl e) ∙ fun_ext (λ v. iff _ _
      (λ h. edge_in job u v e (unstruck_out job v (meet_r (edge (job_of job.sheet) u) (unstruck job) v h)).0
      (meet_l (edge (job_of job.sheet) u) (unstruck job) v h))
      (λ h. let r = edge_out job u v h in
      meet_in (edge (job_of job.sheet) u) (unstruck job) v r.there
      (unstruck_in job v r.right r.sheet.right))))

  pub graph_struck : {w graph m : ℕ} {p p' : List ℕ} → Rewritten (left_of job) 0 m w graph m p p'
      → ((u : ℕ) → u < m → row_at p w graph u ≡ edge (job_of job.sheet) u) → Built (edge job) w graph m p p'
  graph_struck R old = record {
    rows = λ u l. R.rows u (omega arith) l ∙ ap (left_of job u) (old u l) ∙ left_edge u;
    rest = R.rest;
  }

-- the root row stands before the rows that are written
pub root_stays : {lo hi : ℕ} {p q : List ℕ} {w : ℕ} {S : Set} → w ≤ lo → Outside lo hi p q → set_at p w 0 ≡ S
    → set_at q w 0 ≡ S
root_stays {w = w} h x e = below x w 0 (omega arith) ∙ e
