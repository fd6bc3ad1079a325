-- `trial_texts_parts::back::add_pairs`: no more pairs are listed than were tried.
use Rattle.std.proofs.Common.{◌≤◌}
use Rattle.trial_texts_parts.proofs.back.add_pairs.Given as goal

abbrev pub invariant-loop-x : goal.invariant-loop-x
invariant-loop-x l =
    l.m ≤ l.x
