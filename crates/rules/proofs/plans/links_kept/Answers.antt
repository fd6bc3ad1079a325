use Rattle.std.proofs.Common.{rules, arith, ◌<◌, sym}
use Rattle.sets.proofs.Below.{all_none, loop_goes_on, loop_stops}
use Rattle.sheet.specs.Sheet.{k_of}
use Rattle.pair_test.proofs.Pairing.{none_before, before_link}
use Rattle.rules.proofs.plans.links_kept.Goals as goal

pub loop-a-init : goal.loop-a-init
loop-a-init c = record { within = omega arith; before = none_before _ _ _; kept = all_none _ }

pub returns-then-not-link_kept : goal.returns-then-not-link_kept
returns-then-not-link_kept c =
    let h : c.loop-a.a < k_of c.args.s.now = omega arith in
    search (rules, loop_stops, sym)

pub loop-a-preserved : goal.loop-a-preserved
loop-a-preserved c =
    let S = c.seek_rule-j.ensures in
    record { within = S.within; before = before_link _ 0 (omega arith) S.earlier; kept = search (rules, loop_goes_on) }
