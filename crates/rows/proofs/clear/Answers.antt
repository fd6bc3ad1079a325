-- `rows::clear` meets its contract. The part that is lent is the row.
use Rattle.std.proofs.Common.{ap, ◌∙◌}
use Rattle.sets.specs.Sets.{nothing}
use Rattle.vset.specs.Words.{has}
use Rattle.rows.proofs.Parts.{lent_row, zeros_nothing}
use Rattle.rows.proofs.clear.Goals as goal

pub returns : goal.returns
returns c =
    let a = c.args in
    let zeros = c.fill.ensures.after (λ y same. same) in
    lent_row (λ S. nothing) a.to a.w a.part.now _ c.requires c.fill.ensures.len (ap has zeros ∙ zeros_nothing _)
