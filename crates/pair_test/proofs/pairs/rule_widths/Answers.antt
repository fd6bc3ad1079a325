-- `pair_test::pairs::rule_widths` meets its contract.
use Rattle.pair_test.specs.Pairs.{rule_widths}
use Rattle.pair_test.proofs.pairs.rule_widths.Goals as goal

pub link_width-requires : goal.link_width-requires
link_width-requires c =
    rw c.rule_a.ensures.0 c.requires.1

pub link_width-requires-2 : goal.link_width-requires-2
link_width-requires-2 c =
    rw c.rule_b.ensures.0 c.requires.2

pub returns : goal.returns
unfolding rule_widths
returns c =
    cc
