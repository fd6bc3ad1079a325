-- `sheet::freq_rows::freqs` meets its contract.
use Rattle.std.proofs.Common.{◌≡◌, true}
use Rattle.sets.specs.Below.{all}
use Rattle.sheet.specs.Sheet.{link_freqs_ok}
use Rattle.sheet.proofs.freq_rows.freqs.Given as goal

abbrev pub invariant-loop-l : goal.invariant-loop-l
invariant-loop-l l =
    all l.l (link_freqs_ok l.s l.p) ≡ true
