use Rattle.std.proofs.Common.{◌≡◌, sym, ◌∙◌, arith}
use Rattle.pair_test.proofs.Laws.{parts_of}
use Rattle.pair_test.proofs.Pairing.{none_before, before_upto}
use Rattle.pair_test.proofs.seek.find_rule.Goals as goal

pub loop-low-init : goal.loop-low-init
loop-low-init c =
    let q = c.rules_of-high.ensures.0 in
    (omega arith, omega arith, none_before _ _ _, λ l. absurd (omega arith))

pub overflow_add-mid : goal.overflow_add-mid
overflow_add-mid c =
    omega arith

pub comes_before-requires : goal.comes_before-requires
comes_before-requires c =
    let P = parts_of _ c.requires in
    let r = P.has_rule_rows in
    let i = c.loop-low.invariant in
    rw c.rule_part-rs.ensures (omega arith)

pub overflow_add-low : goal.overflow_add-low
overflow_add-low c =
    omega arith

pub loop-low-smaller-then-comes_before : goal.loop-low-smaller-then-comes_before
loop-low-smaller-then-comes_before c =
    omega arith

pub loop-low-preserved-then-comes_before : goal.loop-low-preserved-then-comes_before
loop-low-preserved-then-comes_before c =
    let P = parts_of _ c.requires in
    let e = rw c.rule_part-rs.ensures at (sym c.comes_before.ensures ∙ c.if-comes_before.true) in
    (omega arith, omega arith, before_upto P _ _ _ (omega arith) e, c.loop-low.invariant.3)

pub loop-low-smaller : goal.loop-low-smaller
loop-low-smaller c =
    omega arith

pub loop-low-preserved : goal.loop-low-preserved
loop-low-preserved c =
    let e = rw c.rule_part-rs.ensures at (sym c.comes_before.ensures ∙ c.if-comes_before.false) in
    (omega arith, omega arith, c.loop-low.invariant.2, λ l. e)

pub returns : goal.returns
returns c =
    let v = c.loop-low in
    let e : v.low ≡ v.high = omega arith in
    record { within = omega arith; earlier = v.invariant.2; here = rw e v.invariant.3 }
