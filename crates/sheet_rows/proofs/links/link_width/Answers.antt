-- The sheet's part is its link section, and `link_bytes` gives the length of its rows.
use Rattle.std.proofs.Common.{arith, length-drop}
use Rattle.sheet_rows.specs.Rows.{link_width}
use Rattle.sheet_rows.proofs.Rows.{part_from}
use Rattle.sheet_rows.proofs.links.link_width.Goals as goal

pub row_width-requires : goal.row_width-requires
row_width-requires c =
    let e = c.link_bytes.ensures.0 in simp (part_from, length-drop, e) (omega arith)

pub returns : goal.returns
unfolding link_width
returns c =
    rw (part_from, c.link_bytes.ensures.0) at c.row_width.ensures
