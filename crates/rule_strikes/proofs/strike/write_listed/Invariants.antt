-- `rule_strikes::strike::write_listed` meets its contract. The invariant: the partners by the first i pair rows are
-- written.
use Rattle.sets.specs.Sets.{◌∪◌}
use Rattle.rows.specs.Rows.{set_at, Put}
use Rattle.rule_strikes.specs.Strikes.{partners}
use Rattle.rule_strikes.proofs.strike.write_listed.Given as goal

abbrev pub invariant-loop-i : goal.invariant-loop-i
invariant-loop-i l =
    Put (set_at l.initial.part l.w l.to ∪ partners l.ps l.s.turned l.s.first l.x l.s.value l.i) l.w l.to l.initial.part l.part
