-- `filters::failed_rows::try_class` meets its contract. Where the lower stands its trial, nothing was struck, and the
-- higher is live still.
use Rattle.std.proofs.Common.{ap, ◌∙◌, Some, arith, rules}
use Rattle.cliques.specs.Words.{four_rows}
use Rattle.filters.proofs.TrialRows.{class_none, lower_over, lower_inside, lower_one, higher_one, both_tried}
use Rattle.filters.proofs.Masks.{Counted, counted}
use Rattle.filters.proofs.failed_rows.try_class.Goals as goal
use Rattle.filters.proofs.failed_rows.try_class.Goals.{After-size_common}

two : (c : After-size_common) → let i = c.args in
    Counted (four_rows i.place) i.place i.c c.row_at-m.result c.size_common.result i.part.now
two c = counted c.args.part.now c.requires.0 c.requires.2 c.row_at-m.ensures c.size_common.ensures

pub returns-then-size_common-ne2 : goal.returns-then-size_common-ne2
returns-then-size_common-ne2 c =
    class_none (two (goal.at.returns-then-size_common-ne2 c).After-size_common) c.if-size_common-ne2.true

pub trial-requires : goal.trial-requires
trial-requires c =
    let C = two (goal.at.trial-requires c).After-size_common in
    (c.requires.0, c.requires.1, c.requires.2, lower_one C c.if-size_common-ne2.false c.next_common-a.ensures)

pub returns-then-struck : goal.returns-then-struck
returns-then-struck c =
    let C = two (goal.at.returns-then-struck c).After-size_common in
    lower_over C c.next_common-a.result (λ e. cc)
    (rw (c.in_ok-struck.was ∙ ap Some c.if-struck.true) at c.trial.ensures)

pub next_common-b-requires : goal.next_common-b-requires
next_common-b-requires c =
    let q = c.requires.0 in
    let C = two (goal.at.next_common-b-requires c).After-size_common in
    let l = lower_inside C c.if-size_common-ne2.false c.next_common-a.ensures in (
      omega (arith, q, c.trial.auto.part),
      omega (arith, q, c.trial.auto.part, c.row_at-m.ensures),
      q.small,
      omega arith,
    )

pub trial-requires-2 : goal.trial-requires-2
trial-requires-2 c =
    let C = two (goal.at.trial-requires-2 c).After-size_common in (
      search rules,
      c.requires.1,
      c.requires.2,
      higher_one C c.if-size_common-ne2.false c.next_common-a.ensures
          (rw (c.in_ok-struck.was ∙ ap Some c.if-struck.false) at c.trial.ensures) c.next_common-b.ensures,
    )

pub returns : goal.returns
returns c =
    let C = two (goal.at.returns c).After-size_common in
    both_tried C c.if-size_common-ne2.false c.next_common-a.ensures
    (rw (c.in_ok-struck.was ∙ ap Some c.if-struck.false) at c.trial.ensures) c.next_common-b.ensures
    c.trial-2.result c.trial-2.ensures
