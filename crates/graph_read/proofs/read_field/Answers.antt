-- `graph_read::read_field` meets its contract.
use Rattle.graph_read.proofs.Fields.{told_no_word, told_no_field, told_field}
use Rattle.graph_read.proofs.read_field.Goals as goal

pub returns-then-not-starts_with : goal.returns-then-not-starts_with
returns-then-not-starts_with c =
    let s = c.args in
    told_no_word s.text.now s.at s.word.now s.end c.starts_with.ensures.value c.if-not-starts_with.true

pub returns-in_err-d : goal.returns-in_err-d
returns-in_err-d c =
    let s = c.args in
    rw c.from_residual.ensures
    (told_no_field s.text.now s.at s.word.now s.end c.starts_with.ensures.value c.if-not-starts_with.false c.in_err-d.was
    c.read_number.ensures)

pub returns : goal.returns
returns c =
    let s = c.args in
    told_field s.text.now s.at s.word.now s.end c.starts_with.ensures.value c.if-not-starts_with.false _ c.in_ok-d.was
    c.read_number.ensures c.ended_by.ensures
