use Rattle.std.proofs.Common.{rules, sym}
use Rattle.sets.proofs.Below.{all_none, loop_ends, loop_goes_on, loop_stops}
use Rattle.sheet.specs.Sheet.{width_rows_ok}
use Rattle.sheet.proofs.width_rows.widths.Goals as goal

pub loop-l-init : goal.loop-l-init
loop-l-init c = search (rules, all_none)

pub returns-then-not-width_ok : goal.returns-then-not-width_ok
unfolding width_rows_ok
returns-then-not-width_ok c = search (rules, loop_stops, sym)

pub loop-l-preserved : goal.loop-l-preserved
loop-l-preserved c = search (rules, loop_goes_on)

pub returns : goal.returns
unfolding width_rows_ok
returns c = search (rules, loop_ends, sym)
