-- `planner::plan` meets its contract: the cells are zero before, and the words after.
use borrow.Author.Rules.{rules}
use mathlib.Core.Path.{subst, ap, ◌∙◌}
use lib.ListN.{length}
use Rattle.rules.specs.Job.{job_with}
use Rattle.zeros.specs.Zeros.{zeros}
use Rattle.zeros.proofs.Zeros.{zero_length, zero_again}
use Rattle.setting.specs.Setting.{setting_of}
use Rattle.planner.specs.Outcome.{outcome}
use Rattle.planner.specs.Planned.{Gives}
use Rattle.planner.proofs.plan.Goals as goal

pub plan_zeroed-r-requires : goal.plan_zeroed-r-requires
plan_zeroed-r-requires c =
    zero_again _ _ c.zero.ensures

pub returns : goal.returns
returns c =
    let a = c.args in
    record {
      gives = subst
          (λ m. Gives (outcome (job_with a.sheet.now a.channels.now)
          (setting_of a.options a.classes.now) m (length a.work.now))
          c.plan_zeroed-r.result c.plan_zeroed-r.new.cells)
          (zero_length _ _ c.zero.ensures) c.plan_zeroed-r.ensures;
      words = c.zero-2.ensures ∙ ap zeros (search rules);
    }
