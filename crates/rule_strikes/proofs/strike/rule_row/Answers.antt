-- `rule_strikes::strike::rule_row` meets its contract. By kind, the row is written or struck.
use Rattle.rows.specs.Rows.{set_at}
use Rattle.rule_strikes.specs.Strikes.{under_rule}
use Rattle.rule_strikes.proofs.Spans.{put_as}
use Rattle.rule_strikes.proofs.Strikes.{ruled_listed, ruled_plain, row_written}
use Rattle.rule_strikes.proofs.strike.rule_row.Goals as goal

pub returns-then-kind-eq3 : goal.returns-then-kind-eq3
returns-then-kind-eq3 c =
    let a = c.args in
    let t = c.if-kind-eq3.true in
    row_written (under_rule a.fs.now a.ps.now a.s) _ _ _ a.u _ c.requires.3 c.row_at-row.ensures.here
    (put_as (ruled_listed a.fs.now a.ps.now a.s a.u
    (set_at a.part.now a.place.w c.row_at-row.result) t (c.requires.0.pairs t))
    c.write_listed.ensures)

pub returns : goal.returns
returns c =
    let a = c.args in
    let ne = c.if-kind-eq3.false in
    row_written (under_rule a.fs.now a.ps.now a.s) _ _ _ a.u _ c.requires.3 c.row_at-row.ensures.here
    (put_as (ruled_plain a.fs.now a.ps.now a.s a.u
    (set_at a.part.now a.place.w c.row_at-row.result) ne (rw c.row_at-row.ensures.here (c.requires.4 ne)))
    (rw c.freq.ensures.0 at c.strike_near.ensures))
