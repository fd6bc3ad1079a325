-- `sheet::freq_rows::rising` meets its contract.
use Rattle.std.proofs.Common.{◌≡◌, true}
use Rattle.sets.specs.Below.{all}
use Rattle.sheet.specs.Sheet.{freq_ok}
use Rattle.sheet.proofs.freq_rows.rising.Given as goal

abbrev pub invariant-loop-i : goal.invariant-loop-i
invariant-loop-i l =
    all l.i (freq_ok l.p l.base) ≡ true
