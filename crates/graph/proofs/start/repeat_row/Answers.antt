use Rattle.std.proofs.Common.{ℕ, arith}
use Rattle.sets.specs.Sets.{Set}
use Rattle.rows.specs.Rows.{row_at}
use Rattle.rule_strikes.proofs.Spans.{put_as}
use Rattle.rule_strikes.proofs.Strikes.{rows_join, row_written}
use Rattle.graph.proofs.start.repeat_row.Goals as goal

pub loop-u-preserved : goal.loop-u-preserved
loop-u-preserved c =
    let a = c.args in
    let h = c.requires in
    let v = c.loop-u in
    let q = c.row_at-from.ensures.here in
    let R = row_written (λ (u : ℕ) (S : Set). row_at a.part.now a.place.w a.place.graph a.first) _ _
    a.place.n v.u _
    (omega arith) c.row_at-row.ensures.here
    (put_as (rw q (v.invariant.others a.first (omega arith) (λ d e. omega arith))) c.copy.ensures) in
    rows_join _ _ _ _ _ _ _ (omega arith) (omega arith) (omega arith) v.invariant R
