-- `rule_sections::rule_rows::rule_row_ok` meets its contract.
use Rattle.rule_sections.specs.Rules.{rule_row_ok}
use Rattle.rule_sections.proofs.rule_rows.rule_row_ok.Goals as goal

pub returns : goal.returns
unfolding rule_row_ok
returns c =
    cc
