-- `planner::first_cause` meets its contract, cause by cause.
use Rattle.std.proofs.Common.{sym, ◌∙◌, arith}
use Rattle.std.proofs.lemmas.Result.{err_from_is_err_and}
use lib.Dec.{lit<}
use Rattle.sheet.proofs.Accepted.{accepted}
use Rattle.rules.specs.Job.{job_with}
use Rattle.setting.specs.Setting.{setting_with}
use Rattle.planner.proofs.Outcomes.{cause_9, cause_10, cause_11, cause_17, sheet_refused}
use Rattle.planner.proofs.first_cause.Goals as goal

pub returns-in_err-check_sheet : goal.returns-in_err-check_sheet
returns-in_err-check_sheet c =
    let a = c.args in
    let p = err_from_is_err_and c.from_residual.result c.from_residual.ensures.1 in
    rw (p.1, p.2) (sheet_refused (job_with a.sheet.now a.channels.now) a.options a.cells a.words _
    c.in_err-check_sheet.ensures)

pub returns-then-not-is_in_range : goal.returns-then-not-is_in_range
returns-then-not-is_in_range c =
    let a = c.args in (
      lit< tt,
      λ on callers. cause_9 (job_with a.sheet.now a.channels.now) (setting_with on a.options callers) a.cells a.words
          (sym c.in_ok-check_sheet.ensures) (sym c.is_in_range.ensures ∙ c.if-not-is_in_range.true),
    )

pub links_of-requires : goal.links_of-requires
links_of-requires c =
    (accepted _ (sym c.in_ok-check_sheet.ensures)).head.long

pub returns-then-cells-links_of : goal.returns-then-cells-links_of
returns-then-cells-links_of c =
    let a = c.args in
    let okay = sym c.is_in_range.ensures ∙ c.if-not-is_in_range.false in (
      lit< tt,
      λ on callers. cause_10 (job_with a.sheet.now a.channels.now) (setting_with on a.options callers) a.cells a.words
          (sym c.in_ok-check_sheet.ensures) okay (omega (arith, c.links_of.ensures.0, c.if-cells-links_of.true)),
    )

pub words_for-requires : goal.words_for-requires
words_for-requires c =
    (accepted _ (sym c.in_ok-check_sheet.ensures)).head.long

pub returns-then-words-words_for : goal.returns-then-words-words_for
returns-then-words-words_for c =
    let a = c.args in
    let okay = sym c.is_in_range.ensures ∙ c.if-not-is_in_range.false in (
      lit< tt,
      λ on callers. cause_11 (job_with a.sheet.now a.channels.now) (setting_with on a.options callers) a.cells a.words
          (sym c.in_ok-check_sheet.ensures) okay (omega (arith, c.links_of.ensures.0, c.if-cells-links_of.false))
          (omega (arith, c.words_for.ensures, c.if-words-words_for.true)),
    )

pub returns-then-not-may_be_lent : goal.returns-then-not-may_be_lent
returns-then-not-may_be_lent c =
    let a = c.args in
    let okay = sym c.is_in_range.ensures ∙ c.if-not-is_in_range.false in (
      lit< tt,
      λ on callers. cause_17 (job_with a.sheet.now a.channels.now) (setting_with on a.options callers) a.cells a.words
          (sym c.in_ok-check_sheet.ensures) okay (omega (arith, c.links_of.ensures.0, c.if-cells-links_of.false))
          (omega (arith, c.words_for.ensures, c.if-words-words_for.false))
          (sym c.is_channel_list-may_be_lent.ensures ∙ c.if-not-may_be_lent.true),
    )

pub returns : goal.returns
returns c =
    let okay = sym c.is_in_range.ensures ∙ c.if-not-is_in_range.false in (
      omega (arith, c.links_of.ensures.0, c.if-cells-links_of.false),
      λ on callers. record {
        sheet = sym c.in_ok-check_sheet.ensures;
        setting = okay;
        words = omega (arith, c.words_for.ensures, c.if-words-words_for.false);
        channels = sym c.is_channel_list-may_be_lent.ensures ∙ c.if-not-may_be_lent.false;
      },
    )
