use Rattle.std.proofs.Common.{◌∙◌, sym, arith}
use Rattle.std.proofs.lemmas.Result.{err_from_is_err_and}
use Rattle.sheet.proofs.Accepted.{accepted}
use Rattle.spares.proofs.Laws.{few_places, answer_refused, answer_few, answer_checked}
use Rattle.spares.proofs.answer_for.Goals as goal

pub returns-in_err-check_sheet : goal.returns-in_err-check_sheet
returns-in_err-check_sheet c =
    let p = err_from_is_err_and c.from_residual.result c.from_residual.ensures.1 in
    rw (p.1, p.2) (answer_refused _ _ _ _ c.in_err-check_sheet.ensures)

pub links_of-k-requires : goal.links_of-k-requires
links_of-k-requires c = (accepted _ (sym c.in_ok-check_sheet.ensures)).head.long

pub overflow_mul-k : goal.overflow_mul-k
overflow_mul-k c =
    let small = (accepted _ (sym c.in_ok-check_sheet.ensures)).head.k_small in
    record { fits = omega (arith, few_places c.links_of-k.result (omega (arith, c.links_of-k.ensures.0))) }

pub returns-then-room-k : goal.returns-then-room-k
returns-then-room-k c =
    answer_few _ _ _ (sym c.in_ok-check_sheet.ensures) (rw (← c.links_of-k.ensures.0) c.if-room-k.true)

pub returns : goal.returns
returns c =
    c.check_accepted.ensures
    ∙ answer_checked _ _ _ (sym c.in_ok-check_sheet.ensures) (rw (← c.links_of-k.ensures.0) c.if-room-k.false)
