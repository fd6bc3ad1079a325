-- `heaviest::edges::keep_edges` meets its contract: the codes below z are kept.
use Rattle.std.proofs.Common.{◌≡◌}
use Rattle.vset.specs.Words.{has}
use Rattle.heaviest_sheet.specs.Written.{edges}
use Rattle.heaviest.specs.Words.{up_to}
use Rattle.heaviest.proofs.edges.keep_edges.Given as goal

abbrev pub invariant-loop-z : goal.invariant-loop-z
invariant-loop-z l =
    has l.codes ≡ up_to l.z (edges l.k l.m)
