-- `graph::build_graph` meets its contract: the parts are the sheet's sections.
use Rattle.std.proofs.Common.{refl}
use Rattle.sheet_rows.proofs.Rows.{part_from}
use Rattle.graph.proofs.Rows.{built_edge}
use Rattle.graph.proofs.build_graph.Goals as goal

pub returns : goal.returns
returns c =
    let e = c.freqs_at-freqs.ensures.0 in
    let f = c.rules_at-rules.ensures.0 in
    let g = c.pairs_at-pairs.ensures.0 in
    built_edge c.requires c.build_rows.ensures (simp part_from (rw e refl))
    (simp part_from (rw f refl)) (simp part_from (rw g refl)) c.rules_of.ensures.0
