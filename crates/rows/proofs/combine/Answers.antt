use Rattle.std.proofs.Common.{◌≡◌, arith}
use Rattle.rows.proofs.Rows.{combined_none, combined_more}
use Rattle.rows.proofs.combine.Goals as goal

pub loop-i-init : goal.loop-i-init
loop-i-init g c =
    combined_none _ _ _ _ _

pub loop-i-preserved : goal.loop-i-preserved
loop-i-preserved g c =
    let l = c.loop-i in
    combined_more l.invariant c.args.w _ (omega arith) c.requires.w_in_bounds c.requires.reads.0 c.requires.reads.1
    (grind arith) c.of.ensures

pub returns : goal.returns
returns g c =
    let e : c.loop-i.i ≡ c.args.w = omega arith in
    rw e at c.loop-i.invariant
