-- `sheet::freq_rows::freq_ok` meets its contract.
use Rattle.std.proofs.Common.{eq-eqb, ne_eqb}
use mathlib.Core.Bool.{and-true}
use Rattle.sheet.specs.Sheet.{freq_ok}
use Rattle.sheet.proofs.freq_rows.freq_ok.Goals as goal

pub returns-then-i-eq0 : goal.returns-then-i-eq0
unfolding freq_ok
returns-then-i-eq0 c =
    rw (eq-eqb _ _ c.if-i-eq0.true, and-true) (cc)

pub returns : goal.returns
unfolding freq_ok
returns c =
    rw (ne_eqb _ _ c.if-i-eq0.false) (cc)
