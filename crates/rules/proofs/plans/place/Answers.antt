use Rattle.std.proofs.Common.{◌+◌, refl, sym, eqb, eq-eqb, arith, ne_eqb}
use Rattle.sets.proofs.Below.{any_ends, any_goes_on, any_none, first_found, first_none}
use Rattle.sheet_rows.specs.Rows.{freq}
use Rattle.rules.specs.Plans.{place_of}
use Rattle.rules.proofs.plans.place.Goals as goal

pub loop-i-init : goal.loop-i-init
loop-i-init c = any_none _

pub returns-then-freq-x : goal.returns-then-freq-x
unfolding place_of
returns-then-freq-x c =
    sym
    (first_found _ _ _ c.loop-i-test.true c.loop-i.invariant
    (rw (← c.freq.ensures.0) (eq-eqb _ _ c.if-freq-x.true)))

pub loop-i-preserved : goal.loop-i-preserved
loop-i-preserved c =
    any_goes_on _ _ _ c.loop-i.invariant refl (rw (← c.freq.ensures.0) (ne_eqb _ _ c.if-freq-x.false))

pub returns : goal.returns
unfolding place_of
returns c =
    let a = c.args in
    sym
    (first_none a.count (λ m. eqb (freq a.fs.now (a.from + m)) a.x)
    (any_ends a.count _ _ (omega arith) c.loop-i-test.false c.loop-i.invariant))
