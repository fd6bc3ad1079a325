-- `part_from` takes the code's part to the sheet's section.
use Rattle.sheet_rows.proofs.Rows.{part_from}
use Rattle.sheet.proofs.sections.rule_section.Goals as goal

pub returns : goal.returns
returns c =
    rw (
      ← c.rules_at-at.ensures.0,
      ← c.links_of.ensures.0,
      ← c.rules_of.ensures.0,
      ← c.pairs_of.ensures.0,
    )
    (rw part_from at c.rules.ensures)
