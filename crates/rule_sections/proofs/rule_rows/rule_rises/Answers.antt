-- `rule_sections::rule_rows::rule_rises` meets its contract.
use Rattle.std.proofs.Common.{ne_eqb}
use Rattle.rule_sections.specs.Rules.{rule_rises}
use Rattle.rule_sections.proofs.rule_rows.rule_rises.Goals as goal

pub returns-then-j-eq0 : goal.returns-then-j-eq0
unfolding rule_rises
returns-then-j-eq0 c =
    rw c.if-j-eq0.true

pub returns : goal.returns
unfolding rule_rises
returns c =
    rw (ne_eqb _ _ c.if-j-eq0.false) (cc)
