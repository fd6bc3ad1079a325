use Rattle.std.proofs.Common.{sym, ◌∙◌, arith, rules}
use Rattle.heaviest.proofs.Kept.{none_kept, kept_graph}
use Rattle.heaviest.proofs.edges.keep_edges.Goals as goal

pub loop-z-init : goal.loop-z-init
loop-z-init c =
    c.requires.2 ∙ sym (none_kept _)

pub keep_edge-requires : goal.keep_edge-requires
keep_edge-requires c =
    (c.requires.0, search rules, omega arith, c.loop-z.invariant)

pub returns : goal.returns
returns c =
    kept_graph _ _ c.loop-z.z _ (omega arith) c.loop-z.invariant
