-- The lines of the first l links are put.
use Rattle.text.specs.Written.{PutLines}
use Rattle.text.proofs.link_lines.put_link_lines.Given as goal

abbrev pub invariant-loop-l : goal.invariant-loop-l
invariant-loop-l l = PutLines l.l l.cells l.initial.out l.out
