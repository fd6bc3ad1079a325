-- Where a plan was found the sheet was accepted.
use Rattle.std.proofs.Common.{sym, rules, arith}
use Rattle.output.proofs.Puts.{puts_same}
use Rattle.text.proofs.Holding.{wrote_holds}
use Rattle.text.proofs.Found.{found_links, given_text}
use Rattle.text.proofs.put_planned.Goals as goal

pub put_answer-requires : goal.put_answer-requires
put_answer-requires c = (
  c.new-out.ensures.start.1,
  λ e. let f = found_links _ _ _ _ c.plan_hall-p.ensures.gives e in (f.0, omega (arith, f.1), f.2),
)

pub returns : goal.returns
returns c =
    let put = puts_same (sym (given_text _ _ _ _ c.plan_hall-p.ensures.gives)) c.put_answer.ensures.0 in
    wrote_holds (omega (arith, c.put_answer.ensures.1)) (let w = put.wrote in search rules)
