-- `filters::filter` meets its contract: bit 2 of the filter number is the sweep's switch. Where the sweep leaves a
-- class empty, so do all filters.
use Rattle.std.proofs.Common.{eq-eqb, ne_eqb}
use Rattle.filters.proofs.SwitchRows.{unswept, swept_shut, swept_then}
use Rattle.filters.proofs.filter.Goals as goal

pub returns-then-filters-ne1 : goal.returns-then-filters-ne1
returns-then-filters-ne1 c =
    unswept c.args.filters (ne_eqb _ 1 c.if-filters-ne1.true) c.unit_filter.ensures

pub returns-then-not-sweep : goal.returns-then-not-sweep
returns-then-not-sweep c =
    swept_shut c.args.filters (eq-eqb _ 1 c.if-filters-ne1.false)
    (rw c.if-not-sweep.true at c.sweep.ensures)

pub returns : goal.returns
returns c =
    let q = c.requires.0 in
    swept_then c.args.filters (eq-eqb _ 1 c.if-filters-ne1.false) q
    (rw c.if-not-sweep.false at c.sweep.ensures) c.unit_filter-2.ensures
