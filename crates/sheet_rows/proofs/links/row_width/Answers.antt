-- `sheet_rows::links::row_width` meets its contract.
use Rattle.std.proofs.Common.{le-leb, arith}
use borrow.Author.Tests.{lt-leb}
use Rattle.sheet_rows.proofs.links.row_width.Goals as goal

pub returns-then-bytes-lt8 : goal.returns-then-bytes-lt8
returns-then-bytes-lt8 c =
    (rw (lt-leb _ _ c.if-bytes-lt8.true), omega arith)

pub returns : goal.returns
returns c =
    (rw (le-leb _ _ c.if-bytes-lt8.false) c.word.ensures.0, c.word.ensures.1)
