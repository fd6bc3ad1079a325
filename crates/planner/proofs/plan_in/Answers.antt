-- `planner::plan_in` meets its contract: the words are filled, searched, and the outcome handed on.
use borrow.Author.Rules.{rules}
use mathlib.Core.Bool.{false}
use Rattle.std.proofs.lemmas.Result.{err_from_is_err_and}
use Rattle.sheet.proofs.Accepted.{accepted}
use Rattle.planner.proofs.Tellings.{list_gives, search_chosen, search_gives}
use Rattle.planner.proofs.plan_in.Goals as goal

pub returns-in_err-set : goal.returns-in_err-set
returns-in_err-set c =
    let p = err_from_is_err_and c.from_residual.result c.from_residual.ensures.1 in
    let E = c.in_err-set.ensures in
    rw (p.1, p.2) (list_gives c.requires E.0 (E.1 false))

pub put_found-requires : goal.put_found-requires
put_found-requires c =
    let R = c.requires in
    let P = c.in_ok-set.ensures in
    let v = R.vertices in (
      λ h. search_chosen (accepted _ R.passed.sheet) P.links (P.filled false) c.search_setting-out.ensures h
          (search rules),
      R.enough,
      R.zero,
    )

pub returns : goal.returns
returns c =
    let P = c.in_ok-set.ensures in
    search_gives (accepted _ c.requires.passed.sheet) P.links (P.filled false) c.search_setting-out.ensures
    c.requires c.put_found.ensures
