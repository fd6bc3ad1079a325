-- `pair_test::pairs::is_of` meets its contract.
use Rattle.std.proofs.Common.{arith, lt-ltb, le-ltb}
use Rattle.sheet.specs.Sheet.{q_of}
use Rattle.pair_test.specs.Pairs.{of_links}
use Rattle.pair_test.proofs.Laws.{parts_of}
use Rattle.pair_test.proofs.pairs.is_of.Goals as goal

pub returns-then-rules_of-j : goal.returns-then-rules_of-j
returns-then-rules_of-j c =
    let a = c.args in
    rw (le-ltb a.j (q_of a.s.now) (omega (arith, c.rules_of.ensures.0)))

pub rule_a-requires : goal.rule_a-requires
rule_a-requires c =
    let r = (parts_of _ c.requires).has_rule_rows in
    rw c.rule_part-rs.ensures (omega (arith, c.rules_of.ensures.0))

pub rule_b-requires : goal.rule_b-requires
rule_b-requires c =
    let r = (parts_of _ c.requires).has_rule_rows in
    rw c.rule_part-rs.ensures (omega (arith, c.rules_of.ensures.0))

pub returns : goal.returns
unfolding of_links
returns c =
    let a = c.args in rw (
      lt-ltb a.j (q_of a.s.now) (omega (arith, c.rules_of.ensures.0)),
      ← c.rule_part-rs.ensures,
      ← c.rule_a.ensures.0,
      ← c.rule_b.ensures.0,
    )
