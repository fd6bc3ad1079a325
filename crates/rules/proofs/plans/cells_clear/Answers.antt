use Rattle.std.proofs.Common.{◌≡◌, ◌<◌, ℕ, List, length, get_or, take, sym, ap, ◌∙◌, arith, length-take, not}
use Rattle.std.proofs.lemmas.List.{get_or-take}
use Rattle.sets.proofs.Tests.{and_in}
use Rattle.sets.proofs.Below.{all_none, all_step, all_false}
use Rattle.rules.specs.Plans.{clear}
use Rattle.rules.proofs.plans.cells_clear.Goals as goal

-- a number of the first n is the list's own
first_own : (n i : ℕ) (xs : List ℕ) → i < length (take n xs) → get_or (take n xs) i 0 ≡ get_or xs i 0
first_own n i xs h = get_or-take n xs i 0 (omega (arith, length-take n xs))

pub loop-cell-init : goal.loop-cell-init
loop-cell-init c = all_none _

pub returns-then-is_on_air : goal.returns-then-is_on_air
unfolding clear
returns-then-is_on_air c =
    let i = c.loop-cell.cell-index in
    let low : i < c.args.links = omega (arith, length-take {A = ℕ}) in
    let on = rw (first_own _ _ _ c.loop-cell-test.true) at c.is_on_air.ensures in
    sym (all_false _ _ i low (ap not (sym on ∙ c.if-is_on_air.true)))

pub loop-cell-preserved : goal.loop-cell-preserved
unfolding clear
loop-cell-preserved c =
    let on = rw (first_own _ _ _ c.loop-cell-test.true) at c.is_on_air.ensures in
    all_step _ _ ∙ and_in c.loop-cell.invariant (ap not (sym on ∙ c.if-is_on_air.false))
