-- `spares::spares` meets its contract: the table is filled just where it is shown.
use Rattle.std.proofs.Common.{sym, ◌∙◌}
use Rattle.sets.proofs.Tests.{and_l, and_r}
use Rattle.sheet.proofs.Accepted.{accepted}
use Rattle.spares.specs.Spares.{judged}
use Rattle.spares.proofs.Laws.{judged_checked, tabled_as, tabled_zero, shown_is, left_shown, left_hidden}
use Rattle.spares.proofs.spares.Goals as goal

pub is_shown-requires : goal.is_shown-requires
is_shown-requires c h =
    let o = judged_checked _ _ _ (rw c.answer_for-answer.ensures at h) in (accepted _ o.0, o.1)

pub fill-requires : goal.fill-requires
fill-requires c =
    let t = sym c.is_shown.ensures ∙ c.if-is_shown.true in
    let j = and_l (judged _) _ t in
    let o = judged_checked _ _ _ (rw c.answer_for-answer.ensures at j) in
    record { accepted = accepted _ o.0; enough = o.1; listed = and_r (judged _) _ t }

pub returns-then-is_shown : goal.returns-then-is_shown
returns-then-is_shown c =
    let e = c.answer_for-answer.ensures in
    let s = sym (shown_is _ _ _ _ e) ∙ sym c.is_shown.ensures ∙ c.if-is_shown.true in
    record { answer = e; table = tabled_as (λ i l. left_shown _ _ _ i s) c.fill.ensures }

pub returns-else-is_shown : goal.returns-else-is_shown
returns-else-is_shown c =
    let e = c.answer_for-answer.ensures in
    let s = sym (shown_is _ _ _ _ e) ∙ sym c.is_shown.ensures ∙ c.if-is_shown.false in
    record { answer = e; table = tabled_as (λ i l. left_hidden _ _ _ i s) (tabled_zero _ _ (c.fill-else-is_shown.ensures.after (λ y same. same))) }
