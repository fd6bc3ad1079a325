-- `desk::guvtemi_import` meets its contract.
use Rattle.std.proofs.Common.{arith}
use Rattle.desk.proofs.Numbers.{import_handed}
use Rattle.desk.proofs.guvtemi_import.Goals as goal

pub sheet_number-requires : goal.sheet_number-requires
sheet_number-requires c =
    omega (arith, c.import-answer.ensures.few, c.unwrap_or.ensures)

pub returns : goal.returns
returns c =
    import_handed c.import-answer.ensures c.unwrap_or.ensures c.import_number.ensures c.sheet_number.ensures
