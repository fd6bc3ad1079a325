-- The cell is in the list of its link, so it has a vertex.
use Rattle.rules.proofs.Laws.{cell_taken, vertex_in_lem}
use Rattle.rules.proofs.plans.cell_vertex.Goals as goal

pub vertex-requires : goal.vertex-requires
vertex-requires c =
    let t = cell_taken c.requires.0 c.requires.1 in (c.requires.0.accepted, t.low, t.listed)

pub returns : goal.returns
returns c =
    (c.vertex.ensures, rw c.vertex.ensures (vertex_in_lem _ _ _ _ (cell_taken c.requires.0 c.requires.1).listed))
