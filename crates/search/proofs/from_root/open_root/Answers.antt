-- `search::from_root::open_root` meets its contract, way by way.
use Rattle.search.proofs.Rooted.{one_empty, without_pre_filter, layer_empty, by_classes}
use Rattle.search.proofs.from_root.open_root.Goals as goal

pub returns-then-not-none_empty : goal.returns-then-not-none_empty
returns-then-not-none_empty c =
    one_empty c.requires.0 c.args.filters c.none_empty.ensures c.if-not-none_empty.true

pub returns-then-filters-eq0 : goal.returns-then-filters-eq0
returns-then-filters-eq0 c =
    without_pre_filter c.requires.0 c.args.filters c.none_empty.ensures c.if-not-none_empty.false c.if-filters-eq0.true

pub returns-then-pre_filter : goal.returns-then-pre_filter
returns-then-pre_filter c =
    by_classes c.requires.0 c.args.filters c.none_empty.ensures c.if-not-none_empty.false c.if-filters-eq0.false
    c.pre_filter.ensures c.if-pre_filter.true c.is_open.ensures

pub returns-else-pre_filter : goal.returns-else-pre_filter
returns-else-pre_filter c =
    layer_empty c.requires.0 c.args.filters c.none_empty.ensures c.if-not-none_empty.false c.if-filters-eq0.false
    c.pre_filter.ensures c.if-pre_filter.false
