-- `search::from_root::search_setting` meets its contract: the root is not entered, or searched.
use Rattle.std.proofs.Common.{false}
use Rattle.search.proofs.Rooted.{not_searched, searched}
use Rattle.search.proofs.from_root.search_setting.Goals as goal

pub returns-then-not-open_root : goal.returns-then-not-open_root
returns-then-not-open_root c =
    not_searched false c.open_root.ensures c.if-not-open_root.true c.no_nodes.ensures

pub returns : goal.returns
returns c =
    searched false c.open_root.ensures c.if-not-open_root.false c.run.ensures
