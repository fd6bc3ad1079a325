-- `byte_calls::check_into` meets its contract.
use Rattle.std.proofs.Common.{ap, ◌∙◌}
use Rattle.rules.specs.Job.{job_with}
use Rattle.rules.specs.Plans.{checked}
use Rattle.byte_calls.proofs.check_into.Goals as goal

pub returns : goal.returns
returns c =
    let a = c.args in
    c.from.ensures ∙ c.check_number.ensures ∙ c.check.ensures
    ∙ ap (checked (job_with a.sheet.now a.channels.now)) c.get_cells.ensures
