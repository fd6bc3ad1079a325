-- `filters::unit_rows::strike_others` meets its contract.
use Rattle.filters.proofs.UnitRows.{others_none, others_some}
use Rattle.filters.proofs.unit_rows.strike_others.Goals as goal

pub returns-then-is_empty_common : goal.returns-then-is_empty_common
returns-then-is_empty_common c =
    others_none c.args.v c.requires.0 c.requires.2 c.row_at-g.ensures.here c.join.ensures c.cut.ensures
    c.is_empty_common.ensures c.if-is_empty_common.true

pub returns : goal.returns
returns c =
    others_some c.args.v c.requires.0 c.requires.2 c.row_at-g.ensures.here c.join.ensures c.cut.ensures
    c.is_empty_common.ensures
    c.if-is_empty_common.false c.cut-2.ensures
