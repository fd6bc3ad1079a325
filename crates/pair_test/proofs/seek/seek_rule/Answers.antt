use Rattle.std.proofs.Common.{◌≡◌, sym, ◌∙◌, arith}
use Rattle.pair_test.proofs.Laws.{parts_of}
use Rattle.pair_test.proofs.Pairing.{before_more}
use Rattle.pair_test.proofs.seek.seek_rule.Goals as goal

pub loop-j-init : goal.loop-j-init
loop-j-init c = rw c.rule_part-rs.ensures c.requires.2

pub comes_before-requires : goal.comes_before-requires
comes_before-requires c =
    let rows = (parts_of _ c.requires.0).has_rule_rows in
    rw c.rule_part-rs.ensures (omega arith)

pub returns-then-not-comes_before : goal.returns-then-not-comes_before
returns-then-not-comes_before c =
    rw (← c.rules_of-q.ensures.0, ← c.rule_part-rs.ensures) (record {
      within = omega arith;
      earlier = c.loop-j.invariant;
      here = λ l. sym c.comes_before.ensures ∙ c.if-not-comes_before.true;
    })

pub loop-j-preserved : goal.loop-j-preserved
loop-j-preserved c = before_more c.loop-j.invariant (sym c.comes_before.ensures ∙ c.if-not-comes_before.false)

pub returns : goal.returns
returns c =
    let all_before : c.loop-j.j ≡ c.rules_of-q.result = omega arith in
    rw (← c.rules_of-q.ensures.0, ← c.rule_part-rs.ensures) (record {
      within = omega arith;
      earlier = rw all_before at c.loop-j.invariant;
      here = λ l. absurd (omega arith);
    })
