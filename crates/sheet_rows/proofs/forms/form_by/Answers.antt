-- The code's numbers are those of the table, whichever the form.
use Rattle.std.proofs.Common.{arith, ne_eqb}
use Rattle.sheet_rows.specs.Form.{form_by}
use Rattle.sheet_rows.proofs.forms.form_by.Goals as goal

pub returns-in-1 : goal.returns-in-1
unfolding form_by
returns-in-1 c = rw c.in-1.is

pub returns-in-2 : goal.returns-in-2
unfolding form_by
returns-in-2 c = rw c.in-2.is

pub returns-in-3 : goal.returns-in-3
unfolding form_by
returns-in-3 c = rw c.in-3.is

pub returns-in_default : goal.returns-in_default
unfolding form_by
returns-in_default c =
    let n = c.args.number in
    rw (ne_eqb n 1 (λ e. omega arith), ne_eqb n 2 (λ e. omega arith), ne_eqb n 3 (λ e. omega arith))
