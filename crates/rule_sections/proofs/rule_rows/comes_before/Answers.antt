-- `rule_sections::rule_rows::comes_before` meets its contract: two pairs compare by their first numbers, and where
-- these are equal by their second.
use Rattle.std.proofs.Common.{◌≡◌, ◌∙◌, refl, Bool, true, false, cond, ◌&&◌, ◌||◌, ltb, eqb, Some, Less, Equal, Greater}
use Rattle.std.specs.Ordering.{is_lt, is_some_and, partial_ordering_then}
use Rattle.rule_sections.specs.Rules.{before}
use Rattle.rule_sections.proofs.rule_rows.comes_before.Goals as goal

by_pairs : (p q r t : Bool) → is_some_and is_lt (partial_ordering_then (Some (cond p Less (cond q Equal Greater))) (Some (cond r Less (cond t Equal Greater)))) ≡ p || (q && r)
by_pairs true q r t = refl
by_pairs false true true t = refl
by_pairs false true false true = refl
by_pairs false true false false = refl
by_pairs false false r t = refl

pub returns : goal.returns
unfolding before
returns c =
    let a = c.args in
    c.lt.ensures ∙ by_pairs (ltb a.a a.c) (eqb a.a a.c) (ltb a.b a.d) (eqb a.b a.d)
