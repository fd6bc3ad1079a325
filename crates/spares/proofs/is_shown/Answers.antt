-- `spares::is_shown` meets its contract.
use Rattle.std.proofs.Common.{◌≡◌, sym, ◌∙◌, false, true, is_ok, arith}
use Rattle.spares.proofs.Laws.{judged_ok}
use Rattle.spares.proofs.is_shown.Goals as goal

pub returns-then-is_err : goal.returns-then-is_err
returns-then-is_err c =
    let e : is_ok c.args.answer ≡ false = grind arith in
    rw (← judged_ok _, e)

pub cells_listed-requires : goal.cells_listed-requires
cells_listed-requires c =
    let e : is_ok c.args.answer ≡ true = grind arith in
    c.requires (sym (judged_ok _) ∙ e)

pub returns : goal.returns
returns c =
    let e : is_ok c.args.answer ≡ true = grind arith in
    rw (← judged_ok _, e) c.cells_listed.ensures
