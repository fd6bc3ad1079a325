-- `graph_sheet::sections::value_of` meets its contract.
use mathlib.Core.Path.{sym, ap}
use mathlib.Core.Bool.{cond}
use borrow.Author.Tests.{eq-eqb, ne_eqb}
use Rattle.graph_sheet.proofs.sections.value_of.Goals as goal

pub returns-then-pairs-eq0 : goal.returns-then-pairs-eq0
returns-then-pairs-eq0 c =
    sym (ap (λ x. cond x 9999999 c.args.before) (eq-eqb _ 0 c.if-pairs-eq0.true))

pub returns-else-pairs-eq0 : goal.returns-else-pairs-eq0
returns-else-pairs-eq0 c =
    sym (ap (λ x. cond x 9999999 c.args.before) (ne_eqb _ 0 c.if-pairs-eq0.false))
