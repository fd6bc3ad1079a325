use Rattle.std.proofs.Common.{rules, sym}
use Rattle.sets.proofs.Below.{all_none, loop_ends, loop_goes_on, loop_stops}
use Rattle.sheet.proofs.freq_rows.rising.Goals as goal

pub loop-i-init : goal.loop-i-init
loop-i-init c = search (rules, all_none)

pub returns-then-not-freq_ok : goal.returns-then-not-freq_ok
returns-then-not-freq_ok c = search (rules, loop_stops, sym)

pub loop-i-preserved : goal.loop-i-preserved
loop-i-preserved c = search (rules, loop_goes_on)

pub returns : goal.returns
returns c = search (rules, loop_ends, sym)
