-- `rule_sections::pair_rows::pair_ok` meets its contract.
use Rattle.std.proofs.Common.{eq-eqb, ne_eqb, arith}
use mathlib.Core.Bool.{and-true}
use Rattle.rule_sections.specs.Rules.{pair_ok}
use Rattle.rule_sections.proofs.pair_rows.pair_ok.Goals as goal

pub returns-then-i-eq0 : goal.returns-then-i-eq0
unfolding pair_ok
returns-then-i-eq0 c =
    rw (eq-eqb c.args.i 0 (omega arith), and-true) (cc)

pub returns : goal.returns
unfolding pair_ok
returns c =
    rw (ne_eqb c.args.i 0 (omega arith)) (cc)
