-- `rule_strikes::strike::strike_one` meets its contract.
use Rattle.std.proofs.Common.{sym, ◌∙◌}
use Rattle.rule_strikes.proofs.Spans.{struck_yes, struck_no}
use Rattle.rule_strikes.proofs.strike.strike_one.Goals as goal

pub returns-then-not-clashes : goal.returns-then-not-clashes
returns-then-not-clashes c =
    struck_no _ _ _ _ _ (sym c.clashes.ensures ∙ c.if-not-clashes.true)

pub returns : goal.returns
returns c =
    struck_yes _ _ (sym c.clashes.ensures ∙ c.if-not-clashes.false) c.remove.ensures
