-- `sheet::header::offsets_ok` meets its contract.
use Rattle.sheet.specs.Refusal.{offsets_ok, table_ok}
use Rattle.sheet.proofs.header.offsets_ok.Goals as goal

pub returns : goal.returns
unfolding offsets_ok table_ok
returns c =
    rw (
      ← c.end_at-end.ensures.0,
      ← c.pairs_at.ensures.0,
      ← c.rules_at.ensures.0,
      ← c.freqs_at.ensures.0,
      ← c.word.ensures.0,
      ← c.word-2.ensures.0,
      ← c.word-3.ensures.0,
      ← c.word-4.ensures.0,
      ← c.word-5.ensures.0,
    )
