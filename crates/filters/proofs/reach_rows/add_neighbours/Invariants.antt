-- `filters::reach_rows::add_neighbours` meets its contract. The invariant: the rows of the members below v are added.
use Rattle.std.proofs.Common.{◌*◌, ◌-◌}
use Rattle.filters.proofs.ReachRows.{Uniting}
use Rattle.filters.proofs.reach_rows.add_neighbours.Given as goal

abbrev pub invariant-loop-v : goal.invariant-loop-v
invariant-loop-v l =
    Uniting l.w l.a l.u l.graph l.n l.initial.part l.part l.v

abbrev pub decreases-loop-v : goal.decreases-loop-v
decreases-loop-v l =
    64 * l.w - l.v
