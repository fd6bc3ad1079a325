-- `rows::remove` meets its contract. The part that is lent is the row.
use Rattle.sets.specs.Sets.{◌∖◌, just}
use Rattle.rows.proofs.Parts.{lent_row}
use Rattle.rows.proofs.remove.Goals as goal

pub returns : goal.returns
returns c =
    let a = c.args in
    lent_row (λ S. S ∖ just a.v) a.to a.w a.part.now _ c.requires.0 c.remove.auto.row c.remove.ensures
