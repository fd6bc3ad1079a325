-- `graph::buckets::strike_on` meets its contract.
use Rattle.std.proofs.Common.{eq-eqb, ne_eqb}
use Rattle.graph.specs.Buckets.{sharing}
use Rattle.rule_strikes.proofs.Spans.{struck_yes, struck_no}
use Rattle.graph.proofs.buckets.strike_on.Goals as goal

pub returns-then-freq-x : goal.returns-then-freq-x
unfolding sharing
returns-then-freq-x c =
    struck_no _ _ _ _ _ (rw (← c.freq.ensures.0) (ne_eqb _ _ c.if-freq-x.true))

pub returns : goal.returns
unfolding sharing
returns c =
    struck_yes _ _ (rw (← c.freq.ensures.0)
    (eq-eqb _ _ c.if-freq-x.false)) c.remove.ensures
