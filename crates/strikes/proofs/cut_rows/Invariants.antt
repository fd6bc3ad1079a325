-- `strikes::cut_rows` meets its contract. The invariant: the rows up to c are cut.
use Rattle.std.proofs.Common.{ℕ}
use Rattle.sets.specs.Sets.{Set, ◌∩◌}
use Rattle.rows.specs.Rows.{set_at}
use Rattle.rule_strikes.specs.Strikes.{Rewritten}
use Rattle.strikes.proofs.cut_rows.Given as goal

abbrev pub invariant-loop-c : goal.invariant-loop-c
invariant-loop-c l =
    Rewritten (λ (i : ℕ) (S : Set). S ∩ set_at l.initial.part l.w 0) 0 l.c l.w l.at l.m l.initial.part l.part
