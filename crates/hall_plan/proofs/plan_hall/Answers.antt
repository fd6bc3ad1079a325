-- `hall_plan::plan_hall` meets its contract: 3, and all cells and words zero, or what `plan` gives.
use mathlib.Core.Path.{sym, ◌∙◌}
use lib.ListN.{length}
use Rattle.rules.specs.Job.{job_with}
use Rattle.setting.specs.Setting.{setting_of}
use Rattle.hall_plan.proofs.Hall.{three_given, planned_given}
use Rattle.hall_plan.proofs.plan_hall.Goals as goal

pub returns-then-is_festival : goal.returns-then-is_festival
returns-then-is_festival c =
    let a = c.args in
    record {
      gives = three_given (job_with a.sheet.now a.channels.now)
          (setting_of a.options a.classes.now) (length a.cells.now) (length a.work.now)
          (sym c.is_festival.ensures ∙ c.if-is_festival.true) c.zero.ensures;
      words = c.zero-then-is_festival.ensures;
    }

pub returns : goal.returns
returns c =
    let a = c.args in
    record {
      gives = planned_given (job_with a.sheet.now a.channels.now)
          (setting_of a.options a.classes.now) (length a.cells.now) (length a.work.now)
          (sym c.is_festival.ensures ∙ c.if-is_festival.false) c.plan.ensures.gives;
      words = c.plan.ensures.words;
    }
