-- `rule_sections::rule_rows::plain_ok` meets its contract.
use Rattle.std.proofs.Common.{refl}
use Rattle.rule_sections.specs.Rules.{plain_ok}
use Rattle.rule_sections.proofs.rule_rows.plain_ok.Goals as goal

pub returns : goal.returns
unfolding plain_ok
returns c =
    refl
