-- `sheet_rows::forms::form_of` meets its contract.
use Rattle.sheet_rows.proofs.forms.form_of.Goals as goal

pub returns : goal.returns
returns c =
    rw (c.form_by.ensures, c.word.ensures.0)
