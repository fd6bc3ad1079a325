-- `pair_test::seek::comes_before` meets its contract.
use Rattle.rule_sections.specs.Rules.{before}
use Rattle.pair_test.proofs.seek.comes_before.Goals as goal

pub returns : goal.returns
unfolding before
returns c =
    cc
