-- The sheet's part is its link section, and `link_bytes` gives the length of its rows.
use Rattle.std.proofs.Common.{arith, length-drop}
use Rattle.sheet_rows.specs.Rows.{link_count}
use Rattle.sheet_rows.proofs.Rows.{part_from}
use Rattle.sheet_rows.proofs.links.link_count.Goals as goal

pub row_count-requires : goal.row_count-requires
row_count-requires c =
    let e = c.link_bytes.ensures.0 in
    simp (part_from, length-drop, e) (omega arith, omega (arith, e, c.link_bytes.ensures.1))

pub returns : goal.returns
unfolding link_count
returns c =
    rw (part_from, c.link_bytes.ensures.0) at c.row_count.ensures
