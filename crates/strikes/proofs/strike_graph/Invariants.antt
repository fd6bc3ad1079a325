-- `strikes::strike_graph` meets its contract. The invariant: the rows up to u have what is left.
use Rattle.rules.specs.Job.{job_with}
use Rattle.rule_strikes.specs.Strikes.{Rewritten}
use Rattle.strikes.specs.Struck.{left_of}
use Rattle.strikes.proofs.strike_graph.Given as goal

abbrev pub invariant-loop-u : goal.invariant-loop-u
invariant-loop-u l =
    Rewritten (left_of (job_with l.sheet l.channels)) 0 l.u l.place.w l.place.graph l.place.n l.initial.part l.part
