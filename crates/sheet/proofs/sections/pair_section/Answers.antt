-- `part_from` takes the code's parts to the sheet's sections.
use Rattle.std.proofs.Common.{arith, length-drop}
use Rattle.sheet.specs.Sheet.{k_of, t_of}
use Rattle.sheet_rows.proofs.Rows.{part_from}
use Rattle.sheet.proofs.sections.pair_section.Goals as goal

pub pairs-requires : goal.pairs-requires
pairs-requires c =
    record {
      k = k_of c.args.s.now;
      t = t_of c.args.s.now;
      has_link_rows = omega (arith, c.requires.0.whole);
      has_rule_rows = simp (part_from, length-drop) (omega arith);
      has_pair_rows = simp (part_from, length-drop) (omega arith);
      rules =
          simp part_from
          (rw (c.rules_at-at.ensures.0, c.rules_of.ensures.0) c.requires.1);
    }

pub returns : goal.returns
returns c =
    rw (
      ← c.pairs_at-from.ensures.0,
      ← c.rules_at-at.ensures.0,
      ← c.rules_of.ensures.0,
    )
    (simp part_from at c.pairs.ensures)
