-- `filters::pre_filter_rows::pre_filter` meets its contract. The invariant: the layers below e have struck.
use Rattle.filters.proofs.PreFilterRows.{Layering}
use Rattle.filters.proofs.pre_filter_rows.pre_filter.Given as goal

abbrev pub invariant-loop-e : goal.invariant-loop-e
invariant-loop-e l =
    Layering l.place l.initial.part l.part l.e
