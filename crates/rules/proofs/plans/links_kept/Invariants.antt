-- The loop's invariant: the cells of the links below a are allowed with those of all higher links, and the rules before
-- j are of links below a.
use Rattle.std.proofs.Common.{◌≤◌, ◌≡◌, true}
use Rattle.sets.specs.Below.{all}
use Rattle.sheet.specs.Sheet.{q_of, rule_part}
use Rattle.pair_test.specs.Asked.{ComeBefore}
use Rattle.rules.specs.Asked.{cell_keeps}
use Rattle.rules.proofs.plans.links_kept.Given as goal

abbrev pub invariant-loop-a : goal.invariant-loop-a
invariant-loop-a l =
    record {
      within : l.j ≤ q_of l.s;
      before : ComeBefore (rule_part l.s) l.a 0 l.j;
      kept : all l.a (cell_keeps l.s l.cells) ≡ true;
    }
