use Rattle.std.proofs.Common.{rules, arith, get_or, ap, ◌∙◌, w32}
use Rattle.std.specs.Prelude.{pos}
use mir.ValLaws.{to_z-of_z}
use Rattle.sets.proofs.Lists.{tab_none, tab_more, tab_done}
use Rattle.spares_bytes.specs.SparesBytes.{bits32}
use Rattle.spares_bytes.proofs.Bits.{bits_are}
use Rattle.spares_bytes.proofs.get_bits.Invariants.{bits_at}
use Rattle.spares_bytes.proofs.get_bits.Goals as goal

pub loop-i-init : goal.loop-i-init
loop-i-init c =
    tab_none _ _

pub loop-i-preserved : goal.loop-i-preserved
loop-i-preserved c =
    let z = get_or c.args.from.now c.loop-i.i (pos 0) in
    tab_more _ _ (bits_at c.args.from.now) _ _ (omega arith) c.loop-i.invariant
    (c.cast_unsigned.ensures ∙ bits_are _ ∙ ap bits32 (to_z-of_z w32 z (search rules)))

pub returns : goal.returns
returns c =
    tab_done _ _ (bits_at c.args.from.now) c.loop-i.i (omega arith) c.loop-i.invariant
