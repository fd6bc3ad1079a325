-- `heaviest::edges::keep_edge` meets its contract: z is kept, or it is no edge's.
use native.Mathlib.Omega.{arith}
use Rattle.heaviest.proofs.Kept.{vertices_some, codes_few, code_parts, code_tested, kept_not, kept_more}
use Rattle.heaviest.proofs.edges.keep_edge.Goals as goal

pub nonzero_div-z : goal.nonzero_div-z
nonzero_div-z c =
    omega (arith, vertices_some _ _ c.requires.0)

pub nonzero_rem-z : goal.nonzero_rem-z
nonzero_rem-z c =
    omega (arith, vertices_some _ _ c.requires.0)

pub is_edge-requires : goal.is_edge-requires
is_edge-requires c =
    let p = code_parts _ _ c.requires.0 c.args.z c.requires.2 in
    (c.requires.0, p.0, p.1)

pub insert-requires : goal.insert-requires
insert-requires c =
    omega (arith, codes_few _ _ c.requires.0, c.requires.1, c.requires.2)

pub returns-then-is_edge : goal.returns-then-is_edge
returns-then-is_edge c =
    kept_more _ _ c.args.z c.requires.3 c.insert.ensures
    (code_tested _ _ c.args.z c.is_edge.ensures c.if-is_edge.true)

pub returns-else-is_edge : goal.returns-else-is_edge
returns-else-is_edge c =
    kept_not _ _ c.args.z c.requires.3 (code_tested _ _ c.args.z c.is_edge.ensures c.if-is_edge.false)
