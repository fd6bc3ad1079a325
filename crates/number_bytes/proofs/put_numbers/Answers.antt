use Rattle.std.proofs.Common.{arith, map, ◌∙◌, sym}
use Rattle.sets.proofs.Lists.{tab_none, tab_more, tab_done}
use Rattle.number_bytes.specs.NumberBytes.{byte_at, number_bytes}
use Rattle.number_bytes.proofs.put_numbers.Goals as goal

pub loop-i-init : goal.loop-i-init
loop-i-init g c =
    tab_none _ _

pub loop-i-preserved : goal.loop-i-preserved
loop-i-preserved g c =
    tab_more _ _ (byte_at g.T.Number.BYTES (map g.T.Number.value c.args.from.now)) _ _ (omega arith) c.loop-i.invariant c.byte_of.ensures

pub returns : goal.returns
unfolding number_bytes
returns g c =
    let from = c.args.from.now in
    tab_done _ _ (byte_at g.T.Number.BYTES (map g.T.Number.value from)) c.loop-i.i (omega arith) c.loop-i.invariant
    ∙ sym (g.T.Number.bytes_of_values from _)
