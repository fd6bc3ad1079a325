-- `rule_strikes::span::take_span` meets its contract. The invariant: the row has lost the stretch up to v.
use Rattle.sets.specs.Sets.{◌∖◌}
use Rattle.rows.specs.Rows.{set_at, Put}
use Rattle.rule_strikes.specs.Strikes.{stretch}
use Rattle.rule_strikes.proofs.span.take_span.Given as goal

abbrev pub invariant-loop-v : goal.invariant-loop-v
invariant-loop-v l =
    Put (set_at l.initial.part l.w l.to ∖ stretch l.first l.v) l.w l.to l.initial.part l.part
