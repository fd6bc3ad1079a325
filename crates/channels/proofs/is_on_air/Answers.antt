use Rattle.std.proofs.Common.{sym, ◌∙◌, arith, length, get_or}
use Rattle.sets.proofs.Below.{any_ends, any_goes_on, any_none, any_stops}
use Rattle.channels.specs.Channels.{covers, covered_by}
use Rattle.channels.proofs.Lists.{on_air_lem, in_range_lem}
use Rattle.channels.proofs.is_on_air.Goals as goal

pub loop-c-init : goal.loop-c-init
loop-c-init c =
    any_none _

pub covers-requires : goal.covers-requires
covers-requires c =
    in_range_lem _ c.loop-c.c-index c.requires c.loop-c-test.true

pub returns-then-covers : goal.returns-then-covers
unfolding covered_by
returns-then-covers c =
    let a = c.args in
    sym (on_air_lem a.channels.now a.x
    ∙ any_stops (length a.channels.now) c.loop-c.c-index (λ j. covers (get_or a.channels.now j 0) a.x) _
    c.loop-c-test.true c.covers.ensures c.if-covers.true)

pub loop-c-preserved : goal.loop-c-preserved
loop-c-preserved c =
    any_goes_on c.loop-c.c-index _ _ c.loop-c.invariant c.covers.ensures c.if-covers.false

pub returns : goal.returns
unfolding covered_by
returns c =
    let a = c.args in
    let v = c.loop-c in
    sym (on_air_lem a.channels.now a.x
    ∙ any_ends (length a.channels.now) v.c-index _ (omega arith) (omega arith) v.invariant)
