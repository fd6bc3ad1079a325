-- `strikes::strike_row` meets its contract.
use Rattle.std.proofs.Common.{sym, ◌∙◌}
use Rattle.rules.specs.Job.{job_with}
use Rattle.rule_strikes.proofs.Strikes.{row_written}
use Rattle.rule_strikes.proofs.Spans.{put_as}
use Rattle.strikes.specs.Struck.{left_of}
use Rattle.strikes.proofs.Struck.{left_none, left_some}
use Rattle.strikes.proofs.strike_row.Goals as goal

pub returns-then-is_struck : goal.returns-then-is_struck
returns-then-is_struck c =
    let t = c.is_struck in
    let r = c.row_at-row in
    let job = job_with c.args.sheet.now c.args.channels.now in
    row_written (left_of job) _ _ _ c.args.u _ c.requires.1 r.ensures.here
    (put_as (left_none job c.args.u _ (sym t.ensures ∙ c.if-is_struck.true)) c.clear.ensures)

pub returns : goal.returns
returns c =
    let t = c.is_struck in
    let r = c.row_at-row in
    let job = job_with c.args.sheet.now c.args.channels.now in
    row_written (left_of job) _ _ _ c.args.u _ c.requires.1 r.ensures.here
    (put_as (left_some job c.args.u _ _ c.requires.2 (sym t.ensures ∙ c.if-is_struck.false))
    c.meet.ensures)
