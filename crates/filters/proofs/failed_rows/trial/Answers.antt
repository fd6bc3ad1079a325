-- `filters::failed_rows::trial` meets its contract. The vertex is live, so that its row has a bit for it, and striking
-- it leaves one less.
use Rattle.std.proofs.Common.{rules}
use Rattle.sets.proofs.Sets.{meet_l}
use Rattle.filters.proofs.TrialRows.{Tested, trial_stands, trial_refuted}
use Rattle.rows.proofs.Rows.{row_member}
use Rattle.filters.proofs.failed_rows.trial.Goals as goal
use Rattle.filters.proofs.failed_rows.trial.Goals.{After-unit_steps}

pub insert-requires : goal.insert-requires
insert-requires c =
    (search rules, row_member _ _ 0 _ (meet_l _ _ _ c.requires.3.live))

tested : (c : After-unit_steps) → let i = c.args in
    Tested i.a i.d i.place i.c c.row_at-m.result i.part.now c.cut.new.part c.insert.new.part c.unit_steps.new.part
    c.unit_steps.result
tested c = record {
  room = c.requires.0;
  from = c.requires.1;
  upto = c.requires.2;
  mask = c.row_at-m.ensures.here;
  which = c.requires.3;
  cut = c.cut.ensures;
  put = c.insert.ensures;
  steps = c.unit_steps.ensures.filtered;
}

pub returns-then-unit_steps : goal.returns-then-unit_steps
returns-then-unit_steps c =
    trial_stands (tested (goal.at.returns-then-unit_steps c).After-unit_steps) c.if-unit_steps.true

pub remove-requires : goal.remove-requires
remove-requires c =
    (search rules, row_member _ _ 0 _ (meet_l _ _ _ c.requires.3.live))

pub returns : goal.returns
returns c =
    rw c.then_some.ensures (trial_refuted (tested (goal.at.returns c).After-unit_steps) c.if-unit_steps.false
    c.remove.ensures c.unit_steps-2.ensures.filtered c.unit_steps-2.ensures.no_more)
