-- `sheet::width_rows::widths` meets its contract.
use Rattle.std.proofs.Common.{◌≡◌, true}
use Rattle.sets.specs.Below.{all}
use Rattle.sheet.specs.Sheet.{width_ok}
use Rattle.sheet.proofs.width_rows.widths.Given as goal

abbrev pub invariant-loop-l : goal.invariant-loop-l
invariant-loop-l l =
    all l.l (width_ok l.bytes l.p) ≡ true
