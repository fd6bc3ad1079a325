-- `pair_test::lists::is_pair` meets its contract.
use Rattle.pair_test.specs.Pairs.{same_pair}
use Rattle.pair_test.proofs.lists.is_pair.Goals as goal

pub returns : goal.returns
unfolding same_pair
returns c =
    cc
