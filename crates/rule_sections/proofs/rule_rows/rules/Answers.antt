use Rattle.std.proofs.Common.{rules, sym, arith}
use Rattle.sets.proofs.Below.{all_none, loop_goes_on, loop_stops, sum_more, sum_none}
use Rattle.rule_sections.specs.Rules.{listed as listed_by}
use Rattle.rule_sections.proofs.RuleRows.{rule_row_is, rules_end, rules_stop}
use Rattle.rule_sections.proofs.rule_rows.rules.Goals as goal

pub loop-j-init : goal.loop-j-init
loop-j-init c = record { right = all_none _; summed = sym (sum_none _); small = omega arith }

pub returns-then-not-rule_row_ok : goal.returns-then-not-rule_row_ok
returns-then-not-rule_row_ok c =
    let v = c.loop-j in
    let e = rule_row_is c.args.p.now c.args.k v.j v.sum _ v.invariant.summed c.rule_row_ok.ensures in
    search (rules, rules_stop, loop_stops)

pub loop-j-preserved : goal.loop-j-preserved
loop-j-preserved c =
    let a = c.args in
    let v = c.loop-j in
    let e = rule_row_is a.p.now a.k v.j v.sum _ v.invariant.summed c.rule_row_ok.ensures in
    record {
      right = search (rules, loop_goes_on);
      summed = omega (arith, sum_more v.j (listed_by a.p.now));
      small = omega arith;
    }

pub returns : goal.returns
returns c =
    let a = c.args in
    let v = c.loop-j in
    rules_end a.p.now a.k a.q a.t v.j v.sum (omega arith) v.invariant.right v.invariant.summed
