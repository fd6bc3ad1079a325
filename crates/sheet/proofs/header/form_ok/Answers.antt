-- `sheet::header::form_ok` meets its contract.
use Rattle.std.proofs.Common.{le-leb}
use borrow.Author.Tests.{lt-leb}
use Rattle.sheet.specs.Refusal.{form_ok}
use Rattle.sheet.proofs.header.form_ok.Goals as goal

pub returns-then-s-lt40 : goal.returns-then-s-lt40
unfolding form_ok
returns-then-s-lt40 c =
    rw (lt-leb _ _ c.if-s-lt40.true)

pub returns : goal.returns
unfolding form_ok
returns c =
    rw (le-leb _ _ c.if-s-lt40.false, ← c.form_of-form.ensures)
