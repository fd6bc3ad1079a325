-- `rule_strikes::strike::add_partner` meets its contract.
use Rattle.std.proofs.Common.{sym, ◌∙◌}
use Rattle.rule_strikes.proofs.Strikes.{partner_put, partner_left}
use Rattle.rule_strikes.proofs.strike.add_partner.Goals as goal

pub returns-then-own_place-x : goal.returns-then-own_place-x
returns-then-own_place-x c =
    partner_left _ _ _ _ _ _ _ _ (λ e. c.if-own_place-x.true (c.own_place.ensures ∙ e))

pub returns : goal.returns
returns c =
    partner_put _ _ _ _ _ (sym c.own_place.ensures ∙ c.if-own_place-x.false)
    (rw c.other_place.ensures at c.insert.ensures)
