-- `graph_sheet::sections::put_links` meets its contract: the rows of the first l links are put.
use mathlib.Core.Path.{◌≡◌}
use Prim.Native.Nat.{◌+◌, ◌*◌}
use lib.ListN.{take}
use Rattle.dimacs.specs.Lists.{join_to}
use Rattle.dimacs.specs.Reading.{first_of}
use Rattle.dimacs.specs.Made.{link_row_of}
use Rattle.output.specs.Puts.{Puts}
use Rattle.graph_sheet.proofs.sections.put_links.Given as goal

abbrev pub invariant-loop-count : goal.invariant-loop-count
invariant-loop-count l =
    (l.out.end ≡ l.initial.out.end + 4 * l.count-index) × (l.first ≡ first_of (take l.k l.counts) l.count-index)
    × Puts (join_to l.count-index (link_row_of (take l.k l.counts))) l.initial.out l.out
