-- `graph_sheet::sections::put_rule` meets its contract.
use native.Mathlib.Omega.{arith}
use lib.Dec.{eqb}
use Rattle.rule_sections.specs.Rules.{most_khz}
use Rattle.graph_sheet.proofs.Writing.{choice_few, rule_put}
use Rattle.graph_sheet.proofs.sections.put_rule.Goals as goal

pub put_halves-requires-2 : goal.put_halves-requires-2
put_halves-requires-2 c =
    let few = choice_few (eqb c.args.pairs 0) 1 3 3 (omega arith) (omega arith) in
    (omega (arith, c.kind_of-kind.ensures, few), omega arith, omega (arith, c.put_halves.ensures.wrote.end))

pub overflow_cast-value : goal.overflow_cast-value
overflow_cast-value c =
    let few = choice_few (eqb c.args.pairs 0) most_khz c.args.before most_khz (omega arith) (omega arith) in
    omega (arith, c.value_of-value.ensures, few)

pub put_full-requires : goal.put_full-requires
put_full-requires c =
    omega (arith, c.put_halves.ensures.wrote.end, c.put_halves-2.ensures.wrote.end, c.requires.4)

pub returns : goal.returns
returns c =
    rule_put _ _ _ _ _ _
    c.kind_of-kind.ensures
    c.value_of-value.ensures
    c.put_halves.ensures
    c.put_halves-2.ensures
    c.put_full.ensures
