use Rattle.filters.proofs.ReachRows.{uniting_start, uniting_more, uniting_end}
use Rattle.filters.proofs.reach_rows.add_neighbours.Goals as goal

pub loop-v-init : goal.loop-v-init
loop-v-init c =
    uniting_start c.requires.0 c.requires.1 c.requires.3 c.next_member-v.ensures

pub loop-v-preserved : goal.loop-v-preserved
loop-v-preserved c =
    uniting_more c.requires.0 c.requires.1 c.requires.3 c.loop-v.invariant c.loop-v-test.true c.row_at-g.ensures.here
    c.join.ensures c.next_member-v-in-loop-v.ensures

pub returns : goal.returns
returns c =
    uniting_end c.requires.0 c.requires.1 c.requires.3 c.loop-v.invariant c.loop-v-test.false
