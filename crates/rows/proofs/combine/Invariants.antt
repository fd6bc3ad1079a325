-- `rows::combine` meets its contract: the first i words of the row are made.
use Rattle.rows.specs.Rows.{Combined}
use Rattle.rows.proofs.combine.Given as goal

abbrev pub invariant-loop-i : goal.invariant-loop-i
invariant-loop-i g l =
    Combined (goal.F-post g l.of) l.to l.a l.b l.initial.part l.part l.i
