-- `rule_strikes::strike::clashes` meets its contract.
use Rattle.std.proofs.Common.{ap, ◌∙◌, not, arith}
use Rattle.spacing.specs.Spacing.{distance, zero_or_more}
use Rattle.spacing.proofs.Spacing.{read_back}
use Rattle.rule_strikes.specs.Strikes.{clashing}
use Rattle.rule_strikes.proofs.strike.clashes.Goals as goal

pub overflow_cast-apart : goal.overflow_cast-apart
unfolding distance
overflow_cast-apart c =
    let h = c.requires in
    record { fits = omega (arith, c.distance-apart.ensures, c.freq.ensures.1, h.2) }

pub returns : goal.returns
unfolding clashing
returns c =
    let z = c.spare_by in
    rw (← c.freq.ensures.0, ← c.distance-apart.ensures)
    (ap not (c.is_allowed.ensures ∙ ap zero_or_more (read_back z.type_inv z.ensures)))
