-- A table that is shown tells which pair clashes.
use Rattle.std.proofs.Common.{ℕ, ◌*◌, ◌<◌, ◌≡◌, refl, sym, ap, ◌∙◌, Bool, true, false, List, arith, eqb, leb, length, eqb-true, eq-eqb, ne_eqb, le-leb, leb-false}
use native.Mathlib.Decide.{dec_lt}
use borrow.Author.Tests.{eqb-false, lt-leb}
use Rattle.sets.specs.Below.{all}
use Rattle.sets.proofs.Tests.{bool, clash, and_l, and_r, and_in, or_l, or_r}
use Rattle.sets.proofs.Below.{all_in, all_out}
use Rattle.channels.specs.Channels.{channels_ok}
use Rattle.sheet.specs.Sheet.{k_of, q_of, freq_part, rule_part, pair_part}
use Rattle.sheet.proofs.Accepted.{accepted}
use Rattle.spacing.specs.Spacing.{zero_or_more, in_range}
use Rattle.spacing.proofs.Spacing.{sub_range}
use Rattle.pair_test.proofs.Pairing.{spare_turned}
use Rattle.rules.specs.Job.{Job}
use Rattle.rules.specs.Plans.{spare_taken, pair_kept, link_kept, keeps, keeps_sheet, keeps_job, cells_of, yes_no, checked}
use Rattle.rules.specs.Asked.{Taken, cell_listed, cells_spare}
use Rattle.spares.specs.Table.{spare_of}
use Rattle.spares.specs.Spares.{answer_for, judged, shown}
use Rattle.spares.specs.Tells.{NoClash, SparesTell}
use Rattle.spares.proofs.Laws.{cells_range, judged_not, judged_checked, shown_judged}

module _ (job : Job) (cells : List ℕ) (room : ℕ) where
  abbrev s : List ℕ
  s = job.sheet

  abbrev k : ℕ
  k = k_of job.sheet

  -- a pair of two links, and a link with itself
  of_two : (a b : ℕ) → (a ≡ b → ⊥) → spare_of s cells a b ≡ cells_spare s cells a b
  unfolding spare_of
  of_two a b ne = rw (ne_eqb a b ne) refl

  of_one : (a b : ℕ) → a ≡ b → zero_or_more (spare_of s cells a b) ≡ true
  unfolding spare_of zero_or_more
  of_one a b e = rw (eq-eqb a b e) refl

  both_ways : (a b : ℕ) → spare_of s cells a b ≡ spare_of s cells b a
  unfolding spare_of spare_taken
  both_ways a b = bool (eqb a b)
      (λ e. let q = eqb-true a b e in rw q)
      (λ e. let ne = eqb-false a b e in rw (e, ne_eqb b a (λ q. ne (sym q)))
      (spare_turned s (freq_part s) (rule_part s) (pair_part s) (q_of s) a b _ _ ne))

  -- judged cells: what the answer tells
  answer_told : judged (answer_for job cells room) ≡ true
      → answer_for job cells room ≡ yes_no (keeps_job job (cells_of cells))
  unfolding answer_for checked
  answer_told h =
      let o = judged_checked job cells room h in
      bool (leb (k * k) room)
      (λ e. bool (channels_ok job.channels)
      (λ f. rw (o.0, e, le-leb k (length cells) o.1, f) refl)
      (λ f. let z = rw (o.0, e, le-leb k (length cells) o.1, f) at h in
      clash _ z (judged_not 17 (omega arith) (omega arith))))
      (λ e. let z = rw (o.0, e) at h in clash _ z (judged_not 10 (omega arith) (omega arith)))

  yes_keeps : (b : Bool) → yes_no b ≡ 100 → b ≡ true
  yes_keeps true e = refl
  yes_keeps false e = absurd (omega arith)

  judged_yes : (x : ℕ) → x ≡ 100 → judged x ≡ true
  unfolding judged
  judged_yes x e = rw e refl

  -- pairs that are kept, in either order, and kept pairs from a table without a clash
  kept_pair : keeps_job job (cells_of cells) ≡ true → (a b : ℕ) → a < b → b < k
      → zero_or_more (cells_spare s cells a b) ≡ true
  unfolding keeps_job keeps_sheet keeps link_kept pair_kept
  kept_pair h a b l x =
      let y = and_r (all k (cell_listed s cells)) _ (and_r (all k _) _ h) in
      let z = all_out k _ (all_out k _ y a (omega arith)) b x in
      rw (lt-leb b a l) at z

  kept_any : keeps_job job (cells_of cells) ≡ true → (a b : ℕ) → a < k → b < k → Dec (a < b) → Dec (b < a)
      → zero_or_more (spare_of s cells a b) ≡ true
  kept_any h a b x y (yes l) d = ap zero_or_more (of_two a b (λ e. omega arith)) ∙ kept_pair h a b l y
  kept_any h a b x y (no l) (yes d) =
      ap zero_or_more (both_ways a b ∙ of_two b a (λ e. omega arith)) ∙ kept_pair h b a d x
  kept_any h a b x y (no l) (no d) = of_one a b (omega arith)

  all_kept : shown job cells room ≡ true → NoClash job cells → keeps_job job (cells_of cells) ≡ true
  unfolding shown keeps_job keeps_sheet keeps link_kept pair_kept
  all_kept h N = and_in N.free (and_in (and_r (judged (answer_for job cells room)) _ h)
      (all_in k _ (λ a x. all_in k _ (λ b y. bool (leb b a)
      (λ e. or_l _ e)
      (λ e.
      let l = leb-false b a e in
      or_r (leb b a) (ap zero_or_more (sym (of_two a b (λ q. omega arith))) ∙ N.pairs a b x y))))))

  taken : shown job cells room ≡ true → Taken s cells
  unfolding shown
  taken h =
      let o = judged_checked job cells room (shown_judged job cells room h) in
      record {
        accepted = accepted s o.0;
        enough = o.1;
        listed = and_r (judged (answer_for job cells room)) _ h;
      }

  of_range : shown job cells room ≡ true → (a b : ℕ) → a < k → b < k → in_range (spare_of s cells a b) ≡ true
  unfolding spare_of
  of_range h a b x y = bool (eqb a b)
      (λ e. rw e (sub_range 0 0 (omega arith) (omega arith)))
      (λ e. rw e (cells_range (taken h) x y))

  pub spares_tell : SparesTell job cells room
  unfolding shown keeps_job keeps_sheet keeps
  spares_tell = record {
    turned = both_ways;
    range = of_range;
    yes = λ h.
        let j = judged_yes _ h in
        let K = yes_keeps _ (sym (answer_told j) ∙ h) in (
          and_in j (and_l (all k (cell_listed s cells)) _ (and_r (all k _) _ K)),
          record {
            pairs = λ a b x y. kept_any K a b x y (dec_lt a b) (dec_lt b a);
            free = and_l (all k _) _ K;
          },
        );
    only = λ h N. answer_told (shown_judged job cells room h) ∙ ap yes_no (all_kept h N);
  }
