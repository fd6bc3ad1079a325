-- `part_from` takes the part to the section.
use Rattle.sheet_rows.proofs.Rows.{part_from}
use Rattle.pair_test.proofs.parts.pair_part.Goals as goal

pub returns : goal.returns
returns c = rw (← c.pairs_at.ensures.0) (part_from c.args.s.now c.pairs_at.result)
