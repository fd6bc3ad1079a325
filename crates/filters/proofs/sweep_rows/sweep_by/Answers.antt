-- `filters::sweep_rows::sweep_by` meets its contract.
use Rattle.filters.proofs.ReachRows.{swept_by}
use Rattle.filters.proofs.sweep_rows.sweep_by.Goals as goal

pub returns : goal.returns
returns c =
    swept_by c.requires.0 c.requires.2 c.join.ensures c.copy.ensures c.strike_unreached.ensures
