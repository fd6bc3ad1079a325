-- `byte_calls::plan_hall_bytes` meets its contract: the planner is lent as many cells as there is room for, up to 64.
use Rattle.std.proofs.Common.{length, ◌/◌}
use Rattle.sheet_rows.specs.Form.{hall_words}
use Rattle.rules.specs.Job.{job_with}
use Rattle.setting.specs.Setting.{setting_of}
use Rattle.hall_plan.specs.Hall.{hall_outcome}
use Rattle.byte_calls.specs.ByteCalls.{hall_outcome_in}
use Rattle.byte_calls.proofs.FewerCells.{hall_alike, alike_handed}
use Rattle.byte_calls.proofs.Handed.{called_handed}
use Rattle.byte_calls.proofs.plan_hall_bytes.Goals as goal

pub returns : goal.returns
unfolding hall_outcome_in
returns c =
    let a = c.args in
    let job = job_with a.sheet.now a.channels.now in
    let x = setting_of a.options a.classes.now in
    let P = c.plan_cells.ensures in
    alike_handed (hall_alike job x hall_words (length a.bytes.now / 4) _ P.4)
    (called_handed (λ m. hall_outcome job x m hall_words) P.3.shows P.3.leaves P.3.met P.5 P.6)
