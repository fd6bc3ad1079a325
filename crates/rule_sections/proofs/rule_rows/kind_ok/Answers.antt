-- `rule_sections::rule_rows::kind_ok` meets its contract.
use Rattle.std.proofs.Common.{ne_eqb}
use Rattle.rule_sections.specs.Rules.{kind_ok}
use Rattle.rule_sections.proofs.rule_rows.kind_ok.Goals as goal

pub returns-then-kind-eq3 : goal.returns-then-kind-eq3
unfolding kind_ok
returns-then-kind-eq3 c =
    rw c.if-kind-eq3.true

pub returns : goal.returns
unfolding kind_ok
returns c =
    rw (ne_eqb _ _ c.if-kind-eq3.false) (cc)
