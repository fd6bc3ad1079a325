-- `rule_strikes::strike::strike_near` meets its contract. The invariant: what clashes in the stretch up to v is struck.
use Rattle.sets.specs.Sets.{◌∩◌, ◌∖◌}
use Rattle.rows.specs.Rows.{set_at, Put}
use Rattle.rule_strikes.specs.Strikes.{stretch, clashing}
use Rattle.rule_strikes.proofs.strike.strike_near.Given as goal

abbrev pub invariant-loop-v : goal.invariant-loop-v
invariant-loop-v l =
    Put (set_at l.initial.part l.w l.to ∖ (stretch l.s.first l.v ∩ clashing l.fs l.s l.x)) l.w l.to l.initial.part l.part
