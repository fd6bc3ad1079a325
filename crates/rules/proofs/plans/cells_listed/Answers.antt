use Rattle.std.proofs.Common.{rules, arith, ◌<◌, sym}
use Rattle.sets.proofs.Below.{all_none, loop_goes_on, loop_stops}
use Rattle.sheet.specs.Sheet.{k_of}
use Rattle.rules.proofs.plans.cells_listed.Goals as goal

pub loop-l-init : goal.loop-l-init
loop-l-init c = all_none _

pub returns-then-not-cell_listed : goal.returns-then-not-cell_listed
returns-then-not-cell_listed c =
    let a = c.args in
    let h : c.loop-l.l < k_of a.s.now = omega arith in
    search (rules, loop_stops, sym)

pub loop-l-preserved : goal.loop-l-preserved
loop-l-preserved c = search (rules, loop_goes_on)
