use Rattle.std.proofs.Common.{rules, arith, ◌≡◌, sym}
use Rattle.sets.proofs.Below.{all_none, loop_ends, loop_goes_on, loop_stops}
use Rattle.sheet.specs.Sheet.{freqs_ok, link_freqs_ok}
use Rattle.sheet.proofs.Links.{link_in}
use Rattle.sheet.proofs.freq_rows.freqs.Goals as goal

pub loop-l-init : goal.loop-l-init
loop-l-init c = search (rules, all_none)

pub rising-requires : goal.rising-requires
rising-requires c =
    let h = c.requires in
    omega (arith, link_in c.args.s.now c.args.k h.n h.links c.loop-l.l (omega arith))

pub returns-then-not-rising : goal.returns-then-not-rising
unfolding freqs_ok link_freqs_ok
returns-then-not-rising c =
    let e : c.rising.result ≡ link_freqs_ok c.args.s.now c.args.p.now c.loop-l.l = cc in
    search (rules, loop_stops, sym)

pub loop-l-preserved : goal.loop-l-preserved
unfolding link_freqs_ok
loop-l-preserved c =
    let e : c.rising.result ≡ link_freqs_ok c.args.s.now c.args.p.now c.loop-l.l = cc in
    search (rules, loop_goes_on)

pub returns : goal.returns
unfolding freqs_ok
returns c = search (rules, loop_ends, sym)
