-- `filters::unit_rows::visit` meets its contract: by the number of live vertices of the class.
use Rattle.std.proofs.Common.{arith}
use Rattle.cliques.specs.Words.{two_rows}
use Rattle.filters.proofs.Masks.{Counted, counted}
use Rattle.filters.proofs.UnitRows.{visit_shut, visit_more, visit_none, visit_struck}
use Rattle.filters.proofs.unit_rows.visit.Goals as goal
use Rattle.filters.proofs.unit_rows.visit.Goals.{After-size_common-live}

live : (c : After-size_common-live) → let i = c.args in
    Counted (two_rows i.place) i.place i.c c.row_at-m.result c.size_common-live.result i.part.now
live c = counted c.args.part.now c.requires.0 c.requires.1 c.row_at-m.ensures c.size_common-live.ensures

pub returns-then-live-eq0 : goal.returns-then-live-eq0
returns-then-live-eq0 c d h =
    visit_shut (live (goal.at.returns-then-live-eq0 c).After-size_common-live) d h c.if-live-eq0.true

pub returns-then-live-gt1 : goal.returns-then-live-gt1
returns-then-live-gt1 c d h =
    visit_more (live (goal.at.returns-then-live-gt1 c).After-size_common-live) d h c.if-live-gt1.true

pub returns-then-v-n : goal.returns-then-v-n
returns-then-v-n c d h =
    visit_none (live (goal.at.returns-then-v-n c).After-size_common-live) d h (omega arith) c.next_common-v.ensures
    c.if-v-n.true

pub returns : goal.returns
returns c d h =
    visit_struck (live (goal.at.returns c).After-size_common-live) d h (omega arith) c.next_common-v.ensures
    c.if-v-n.false c.strike_others.ensures
