-- `strikes::put_unstruck` meets its contract. The invariant: the struck ones of the vertices passed have left the row.
use Rattle.sets.specs.Sets.{◌∩◌, ◌∖◌}
use Rattle.rules.specs.Job.{job_with, struck}
use Rattle.rows.specs.Rows.{set_at, Put}
use Rattle.rule_strikes.specs.Strikes.{stretch}
use Rattle.strikes.proofs.put_unstruck.Given as goal

abbrev pub invariant-loop-v : goal.invariant-loop-v
invariant-loop-v l =
    Put (set_at l.initial.part l.w 0 ∖ (stretch 0 l.v ∩ struck (job_with l.sheet l.channels))) l.w 0 l.initial.part l.part
