-- `desk::guvtemi_heaviest` meets its contract.
use Rattle.std.proofs.Common.{arith}
use Rattle.desk.proofs.Numbers.{heaviest_handed}
use Rattle.desk.proofs.guvtemi_heaviest.Goals as goal

pub sheet_number-requires : goal.sheet_number-requires
sheet_number-requires c =
    omega (arith, c.heaviest-answer.ensures.few, c.unwrap_or.ensures)

pub returns : goal.returns
returns c =
    heaviest_handed c.heaviest-answer.ensures c.unwrap_or.ensures c.heaviest_number.ensures c.sheet_number.ensures
