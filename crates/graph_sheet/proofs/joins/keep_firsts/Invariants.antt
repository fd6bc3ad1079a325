-- `graph_sheet::joins::keep_firsts` meets its contract: the first vertices of the first l links are kept.
use mathlib.Core.Path.{◌≡◌}
use lib.ListN.{take}
use Rattle.dimacs.specs.Reading.{first_of}
use Rattle.graph_sheet.specs.Pairs.{FirstsTo}
use Rattle.graph_sheet.proofs.joins.keep_firsts.Given as goal

abbrev pub invariant-loop-l : goal.invariant-loop-l
invariant-loop-l l =
    (l.first ≡ first_of (take l.fn.s.links l.counts) l.l) × FirstsTo (take l.fn.s.links l.counts) l.firsts l.l
