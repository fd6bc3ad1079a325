-- `rule_strikes::strike::rule_side` meets its contract. The invariant: the link's rows up to u are under the rule.
use Rattle.rule_strikes.specs.Strikes.{under_rule, Rewritten}
use Rattle.rule_strikes.proofs.strike.rule_side.Given as goal

abbrev pub invariant-loop-u : goal.invariant-loop-u
invariant-loop-u l =
    Rewritten (under_rule l.fs l.ps l.s) l.s.from l.u l.place.w l.place.graph l.place.n l.initial.part l.part
