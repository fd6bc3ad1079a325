-- `sheet::width_rows::width_ok` meets its contract.
use Rattle.sheet.specs.Sheet.{width_ok}
use Rattle.sheet.proofs.width_rows.width_ok.Goals as goal

pub returns : goal.returns
unfolding width_ok
returns c =
    rw (← c.row_width-width.ensures.0)
