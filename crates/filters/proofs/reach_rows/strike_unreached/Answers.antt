-- `filters::reach_rows::strike_unreached` meets its contract.
use Rattle.filters.proofs.ReachRows.{struck}
use Rattle.filters.proofs.reach_rows.strike_unreached.Goals as goal

pub returns : goal.returns
returns c =
    struck c.requires.0 c.requires.2 c.meet.ensures c.add_neighbours.ensures c.meet-2.ensures
