use native.Mathlib.Omega.{arith}
use Prim.Native.Nat.{◌+◌}
use Rattle.wire_put.proofs.Fulls.{full_length}
use Rattle.graph_sheet.proofs.Writing.{join_none, join_more, join_done, freq_put}
use Rattle.graph_sheet.proofs.sections.put_freqs.Goals as goal

pub loop-v-init : goal.loop-v-init
loop-v-init c =
    (omega arith, join_none _ _)

pub put_full-requires : goal.put_full-requires
put_full-requires c =
    omega arith

pub loop-v-preserved : goal.loop-v-preserved
loop-v-preserved c =
    let l = c.loop-v in
    let p = c.put_full.ensures in (
      omega (arith, p.wrote.end, full_length (l.v + 1), l.invariant.0),
      join_more _ l.v l.invariant.1 (freq_put l.v p),
    )

pub returns : goal.returns
returns c =
    let l = c.loop-v in (join_done _ l.v _ (omega arith) l.invariant.1, omega (arith, l.invariant.0))
