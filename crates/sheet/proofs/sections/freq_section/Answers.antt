-- `part_from` takes the code's parts to the sheet's sections.
use Rattle.std.proofs.Common.{arith, length-drop}
use Rattle.sheet.specs.Sheet.{n_of}
use Rattle.sheet_rows.proofs.Rows.{part_from}
use Rattle.sheet.proofs.sections.freq_section.Goals as goal

pub freqs-requires : goal.freqs-requires
freqs-requires c =
    record {
      n = n_of c.args.s.now;
      has_link_rows = rw c.links_of.ensures.0 (omega (arith, c.requires.0.whole));
      has_freq_rows = simp (part_from, length-drop) (omega arith);
      links = rw c.links_of.ensures.0 c.requires.1;
    }

pub returns : goal.returns
returns c =
    rw (← c.freqs_at-at.ensures.0, ← c.links_of.ensures.0)
    (simp part_from at c.freqs.ensures)
