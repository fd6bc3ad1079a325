-- `part_from` takes the code's part to the sheet's section.
use Rattle.std.proofs.Common.{arith, length-drop}
use Rattle.sheet_rows.proofs.Rows.{part_from}
use Rattle.sheet.specs.Sheet.{links_ok}
use Rattle.sheet.proofs.sections.link_section.Goals as goal

pub links-requires : goal.links-requires
links-requires c =
    let h = c.requires in
    let e = c.link_bytes.ensures in (
      omega (arith, c.links_of.ensures.0, h.k_small),
      rw (e.0, c.links_of.ensures.0) (simp (part_from, length-drop) (omega (arith, h.whole))),
      e.1,
    )

pub returns : goal.returns
unfolding links_ok
returns c =
    rw (
      ← c.widths_right-wide.ensures,
      ← c.link_bytes.ensures.0,
      ← c.links_of.ensures.0,
      ← c.freqs_of.ensures.0,
    )
    (rw part_from at c.links.ensures)
