-- `part_from` takes the code's part to the sheet's section.
use Rattle.std.proofs.Common.{arith, length-drop}
use Rattle.sheet_rows.proofs.Rows.{part_from}
use Rattle.sheet.specs.Sheet.{widths_ok}
use Rattle.sheet.proofs.sections.widths_right.Goals as goal

pub widths-requires : goal.widths-requires
widths-requires c =
    rw (c.link_bytes.ensures.0, c.links_of.ensures.0)
    (simp (part_from, length-drop) (omega (arith, c.requires.whole)))

pub returns : goal.returns
unfolding widths_ok
returns c =
    rw (← c.links_of.ensures.0, ← c.link_bytes.ensures.0)
    (rw part_from at c.widths.ensures)
