use Rattle.std.proofs.Common.{refl, ap, ◌∙◌, Some}
use Rattle.cliques.specs.Words.{four_rows}
use Rattle.filters.specs.Failed.{failed}
use Rattle.filters.proofs.Failed.{Closed, failed_greatest}
use Rattle.filters.proofs.FailedRows.{rested_shut, rested, rested_closed}
use Rattle.filters.proofs.Repeats.{Repeating, repeat_start, repeat_shut, repeat_more, repeat_all}
use Rattle.filters.proofs.failed_rows.failed.Goals as goal
use Rattle.filters.proofs.failed_rows.failed.Goals.{After-round}

pub loop-place-init : goal.loop-place-init
loop-place-init c =
    repeat_start failed Closed failed_greatest c.requires.0

-- after the unit steps, before the round
there : (c : After-round) → let i = c.args in
    Repeating failed (four_rows i.place) i.d i.place i.part.now c.unit_steps.new.part
there c = rested c.requires.0 c.loop-place.invariant c.unit_steps.ensures.filtered c.loop-place-test.true

pub returns-in-None : goal.returns-in-None
returns-in-None c =
    let S = rw c.in-None.is at c.round.ensures in
    repeat_shut failed Closed failed_greatest c.requires.0 (there (goal.at.returns-in-None c).After-round) S.rest
    (S.shut refl)

pub loop-place-preserved : goal.loop-place-preserved
loop-place-preserved c =
    repeat_more failed Closed failed_greatest c.requires.0 (there (goal.at.loop-place-preserved c).After-round)
    (rw (c.in-Some-true.is ∙ ap Some c.in-Some-true.field-0-test) at c.round.ensures)

pub returns-in-Some-false : goal.returns-in-Some-false
returns-in-Some-false c =
    repeat_all failed Closed failed_greatest c.requires.0 (there (goal.at.returns-in-Some-false c).After-round)
    (rw (c.in-Some-false.is ∙ ap Some c.in-Some-false.field-0-test) at c.round.ensures)
    (rested_closed c.requires.0 c.loop-place.invariant c.unit_steps.ensures.filtered c.loop-place-test.true)

pub returns : goal.returns
returns c =
    rested_shut c.requires.0 c.loop-place.invariant c.unit_steps.ensures.filtered c.loop-place-test.false
