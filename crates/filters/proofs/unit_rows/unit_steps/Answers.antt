use Rattle.std.proofs.Common.{refl, ap, ◌∙◌, Some, arith}
use Rattle.filters.specs.Unit.{unit}
use Rattle.filters.proofs.Repeats.{repeat_start, repeat_shut, repeat_more, repeat_all}
use Rattle.filters.proofs.Unit.{UnitClosed, unit_greatest}
use Rattle.filters.proofs.UnitRows.{rests_closed}
use Rattle.filters.proofs.unit_rows.unit_steps.Goals as goal

pub loop-init : goal.loop-init
loop-init c =
    (repeat_start unit UnitClosed unit_greatest c.requires.0, omega arith)

pub returns-in-None-clause-filtered : goal.returns-in-None-clause-filtered
returns-in-None-clause-filtered c =
    let S = rw c.in-None.is at c.pass.ensures in
    repeat_shut unit UnitClosed unit_greatest c.requires.0 c.loop.invariant.0 S.rest (S.shut refl)

pub loop-preserved : goal.loop-preserved
loop-preserved c =
    let S = rw (c.in-Some-true.is ∙ ap Some c.in-Some-true.field-0-test) at c.pass.ensures in (
      repeat_more unit UnitClosed unit_greatest c.requires.0 c.loop.invariant.0 S,
      omega (arith, S.fewer refl, c.loop.invariant.1),
    )

pub returns-in-Some-false-clause-filtered : goal.returns-in-Some-false-clause-filtered
returns-in-Some-false-clause-filtered c =
    let S = rw (c.in-Some-false.is ∙ ap Some c.in-Some-false.field-0-test) at c.pass.ensures in
    repeat_all unit UnitClosed unit_greatest c.requires.0 c.loop.invariant.0 S (λ G N. rests_closed _ G _)
