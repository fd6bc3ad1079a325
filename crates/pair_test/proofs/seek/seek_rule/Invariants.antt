-- The loop's invariant: the rules before j come before the links.
use Rattle.pair_test.specs.Asked.{ComeBefore}
use Rattle.pair_test.proofs.seek.seek_rule.Given as goal

abbrev pub invariant-loop-j : goal.invariant-loop-j
invariant-loop-j l =
    ComeBefore l.rs l.a l.b l.j
