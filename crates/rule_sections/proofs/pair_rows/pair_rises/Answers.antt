-- `rule_sections::pair_rows::pair_rises` meets its contract.
use Rattle.rule_sections.specs.Rules.{pair_rises}
use Rattle.rule_sections.proofs.pair_rows.pair_rises.Goals as goal

pub returns : goal.returns
unfolding pair_rises
returns c =
    cc
