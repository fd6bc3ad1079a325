use Rattle.std.proofs.Common.{◌+◌, refl, ap, arith}
use Rattle.sets.specs.Sets.{Set, ◌∩◌}
use Rattle.rows.specs.Rows.{set_at}
use Rattle.rule_strikes.proofs.Spans.{put_as}
use Rattle.rule_strikes.proofs.Strikes.{rows_join, row_written}
use Rattle.strikes.proofs.Struck.{root_stays}
use Rattle.strikes.proofs.cut_rows.Goals as goal

pub loop-c-preserved : goal.loop-c-preserved
loop-c-preserved c =
    let l = c.loop-c in
    let p = l.part in
    let root = root_stays {w = c.args.w} c.requires.0 l.invariant.rest refl in
    rows_join _ _ _ _ 0 l.c (l.c + 1) (omega arith) (omega arith) (omega arith) l.invariant
    (row_written _ _ _ _ l.c _ c.loop-c-test.true c.row_at-row.ensures.here
    (put_as (ap (λ (X : Set). set_at p c.args.w c.row_at-row.result ∩ X) root) c.meet.ensures))
