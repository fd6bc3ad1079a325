-- `filters::unit_filter` meets its contract: bit 4 of the filter number is the switch.
use Rattle.std.proofs.Common.{eq-eqb, ne_eqb}
use Rattle.filters.proofs.SwitchRows.{unit_on, unit_off}
use Rattle.filters.proofs.unit_filter.Goals as goal

pub returns-then-filters-eq1 : goal.returns-then-filters-eq1
returns-then-filters-eq1 c =
    unit_on c.args.filters (eq-eqb _ 1 c.if-filters-eq1.true) c.failed.ensures

pub returns : goal.returns
returns c =
    unit_off c.args.filters (ne_eqb _ 1 c.if-filters-eq1.false) c.is_open.ensures
