-- `rule_sections::rule_rows::listed` meets its contract.
use Rattle.std.proofs.Common.{ne_eqb, arith}
use Rattle.rule_sections.specs.Rules.{listed as listed_by}
use Rattle.rule_sections.proofs.rule_rows.listed.Goals as goal

pub returns-then-rule_kind-eq3 : goal.returns-then-rule_kind-eq3
unfolding listed_by
returns-then-rule_kind-eq3 c = (
  rw (← c.rule_kind.ensures.0, c.if-rule_kind-eq3.true) c.rule_count.ensures.0,
  c.rule_count.ensures.1,
)

pub returns-else-rule_kind-eq3 : goal.returns-else-rule_kind-eq3
unfolding listed_by
returns-else-rule_kind-eq3 c =
    (rw (← c.rule_kind.ensures.0, ne_eqb _ _ c.if-rule_kind-eq3.false), omega arith)
