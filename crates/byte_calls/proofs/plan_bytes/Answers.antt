-- `byte_calls::plan_bytes` meets its contract: the planner is lent as many cells as there is room for, up to 128.
use Rattle.std.proofs.Common.{length, ◌/◌}
use Rattle.sheet_rows.specs.Form.{most_links, most_words}
use Rattle.rules.specs.Job.{job_with}
use Rattle.setting.specs.Setting.{setting_of}
use Rattle.planner.specs.Outcome.{outcome}
use Rattle.byte_calls.specs.ByteCalls.{outcome_in}
use Rattle.byte_calls.proofs.FewerCells.{lent_alike, few_links, alike_handed}
use Rattle.byte_calls.proofs.Handed.{called_handed}
use Rattle.byte_calls.proofs.plan_bytes.Goals as goal

pub returns : goal.returns
unfolding outcome_in
returns c =
    let a = c.args in
    let job = job_with a.sheet.now a.channels.now in
    let x = setting_of a.options a.classes.now in
    let P = c.plan_cells.ensures in
    alike_handed (lent_alike job x most_words most_links (few_links a.sheet.now) (length a.bytes.now / 4) _ P.4)
    (called_handed (λ m. outcome job x m most_words) P.3.shows P.3.leaves P.3.met P.5 P.6)
