-- `strikes::strike_vertex` meets its contract.
use Rattle.std.proofs.Common.{sym, ◌∙◌}
use Rattle.rule_strikes.proofs.Spans.{struck_yes, struck_no}
use Rattle.strikes.proofs.strike_vertex.Goals as goal

pub returns-then-not-is_struck : goal.returns-then-not-is_struck
returns-then-not-is_struck c =
    let t = c.is_struck in
    struck_no _ _ _ _ _ (sym t.ensures ∙ c.if-not-is_struck.true)

pub returns : goal.returns
returns c =
    let t = c.is_struck in
    struck_yes _ _ (sym t.ensures ∙ c.if-not-is_struck.false) c.remove.ensures
