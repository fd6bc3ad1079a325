-- A counting call lent 128 cells and 1,024 counts gives the caller what one lent more gives: a sheet has at most 128
-- links and 1,024 frequencies, and what is past them is zero.
use mathlib.Core.Path.{◌≡◌, refl, sym, ap, ◌∙◌}
use mathlib.Core.Bool.{Bool, true, false, cond}
use mathlib.Core.List.{List}
use Prim.Native.Nat.{ℕ, ◌≤◌, min}
use lib.Dec.{eqb, leb}
use lib.ListN.{get_or}
use borrow.Author.Tests.{eqb-true, eqb-false, le-ltb}
use Rattle.sets.specs.Below.{tabulate}
use Rattle.sheet.specs.Sheet.{n_of}
use Rattle.sheet.specs.Refusal.{passing, unless}
use Rattle.sheet.proofs.Accepted.{accepted}
use Rattle.rules.specs.Job.{Job}
use Rattle.search.specs.Limit.{Answer, plan, none, stopped, answer}
use Rattle.zeros.proofs.Zeros.{zeros_at}
use Rattle.setting.specs.Setting.{Setting, counting}
use Rattle.sheet_rows.specs.Form.{most_links, most_freqs, most_words}
use Rattle.planner.specs.Outcome.{call_refusal, outcome_of}
use Rattle.planner.proofs.Accepted.{call_accepted}
use Rattle.planner.proofs.Outcomes.{outcome_accepted}
use Rattle.number_bytes.proofs.NumberBytes.{same_bytes}
use Rattle.byte_calls.proofs.FewerCells.{Alike, get_or_tabled, lesser, few_links, lent_cause, lent_alike, alike_handed}
use Rattle.counting.specs.Plans.{plans_with}
use Rattle.counting.specs.Outcome.{counting_refusal, longer_tree_of, count_of, counts_for, CountingOutcome, counting_outcome}
use Rattle.counting.proofs.Outcomes.{cause_same, causes_passed, counting_refused, counting_accepted}
use Rattle.count_bytes.specs.CountBytes.{CountsHanded}

-- two outcomes that the caller cannot tell apart
pub record AlikeCounting (o p : CountingOutcome) : Type 0 where
  pub outcome : Alike o.outcome p.outcome
  pub counts : (i : ℕ) → get_or o.counts i 0 ≡ get_or p.counts i 0

module _ (job : Job) (x : Setting) (m r u s : ℕ) (em : r ≡ min m most_links) (eu : s ≡ min u most_freqs) where
  same_cause : counting_refusal job x r s most_words ≡ counting_refusal job x m u most_words
  unfolding counting_refusal
  same_cause = rw (lent_cause job x most_words most_links (few_links job.sheet) m r em)
      (go (eqb (call_refusal job x m most_words) 0) refl)
    where
      go : (b : Bool) → eqb (call_refusal job x m most_words) 0 ≡ b
          → passing b (call_refusal job x m most_words) (λ _. unless (leb (n_of job.sheet) s) 19)
          ≡ passing b (call_refusal job x m most_words) (λ _. unless (leb (n_of job.sheet) u) 19)
      go true q =
          let a = accepted job.sheet (call_accepted job x m most_words (eqb-true _ 0 q)).sheet in
          ap (λ b. unless b 19) (lesser (n_of job.sheet) u most_freqs s eu a.head.n_small)
      go false q = refl

  -- the counts of a list that is long enough, and of an answer, read anywhere
  count_at : (y : ℕ) → n_of job.sheet ≤ y → (i : ℕ) → get_or (tabulate y (count_of job)) i 0 ≡ count_of job i
  unfolding count_of
  count_at y h = get_or_tabled y (n_of job.sheet) (count_of job) h
      (λ i g. ap (λ b. cond b (plans_with job i) 0) (le-ltb i (n_of job.sheet) g))

  counts_alike : n_of job.sheet ≤ s → n_of job.sheet ≤ u → (a : Answer) (i : ℕ)
      → get_or (counts_for job s a) i 0 ≡ get_or (counts_for job u a) i 0
  counts_alike hs hu (plan p t) i = count_at s hs i ∙ sym (count_at u hu i)
  counts_alike hs hu (none t) i = count_at s hs i ∙ sym (count_at u hu i)
  counts_alike hs hu (stopped t) i = zeros_at s i ∙ sym (zeros_at u i)

  pub counting_alike : AlikeCounting (counting_outcome job x r s most_words) (counting_outcome job x m u most_words)
  counting_alike = go (eqb (counting_refusal job x m u most_words) 0) refl
    where
      go : (b : Bool) → eqb (counting_refusal job x m u most_words) 0 ≡ b
          → AlikeCounting (counting_outcome job x r s most_words) (counting_outcome job x m u most_words)
      go true q =
          let e = eqb-true (counting_refusal job x m u most_words) 0 q in
          let f = same_cause ∙ e in
          let a = answer x.limit (longer_tree_of job x) in
          let p = causes_passed job x m u most_words e in
          let p' = causes_passed job x r s most_words f in
          let o : Alike (outcome_of job r a) (outcome_of job m a) =
          rw (
            outcome_accepted job (counting x) r most_words (cause_same job x r s most_words ∙ p'.0),
            outcome_accepted job (counting x) m most_words (cause_same job x m u most_words ∙ p.0),
          ) at (lent_alike job (counting x) most_words most_links (few_links job.sheet) m r em) in
          rw (counting_accepted job x r s most_words f, counting_accepted job x m u most_words e)
          (record { outcome = o; counts = counts_alike p'.1 p.1 a })
      go false q =
          let ne = eqb-false (counting_refusal job x m u most_words) 0 q in
          rw (
            counting_refused job x r s most_words (λ i. ne (sym same_cause ∙ i)),
            counting_refused job x m u most_words ne,
          )
          (record {
            outcome = record {
              answer = same_cause;
              nodes = refl;
              cells = λ i. zeros_at r i ∙ sym (zeros_at m i);
            };
            counts = λ i. zeros_at s i ∙ sym (zeros_at u i);
          })

-- what the caller is handed
pub counts_handed : {o p : CountingOutcome} {room space r : ℕ} {cells counts : List ℕ} → AlikeCounting o p
    → CountsHanded o room space r cells counts → CountsHanded p room space r cells counts
counts_handed {space = space} h H = record {
  handed = alike_handed h.outcome H.handed;
  bytes = H.bytes ∙ same_bytes 8 space _ _ h.counts;
}
