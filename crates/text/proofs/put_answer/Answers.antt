-- Answer by answer.
use Rattle.std.proofs.Common.{◌≡◌, sym, ap, ◌∙◌, arith}
use Rattle.sheet.specs.Sheet.{k_of}
use Rattle.sheet.proofs.Accepted.{accepted}
use Rattle.search.specs.Limit.{run_number}
use Rattle.planner.specs.Planned.{verdict_number}
use Rattle.planner.proofs.Found.{refusal_few}
use Rattle.output.proofs.Puts.{puts_same}
use Rattle.lines.specs.Lines.{ascii, line}
use Rattle.text.proofs.Links.{lines_done}
use Rattle.text.proofs.Answers.{found_put, printed_none, printed_stopped, printed_refused}
use Rattle.text.proofs.put_answer.Goals as goal

pub links_of-requires : goal.links_of-requires
links_of-requires c =
    (accepted _ (c.requires.1 (ap verdict_number c.in-Ok.is ∙ ap run_number c.in-Found.is)).0).head.long

pub put_link_lines-requires : goal.put_link_lines-requires
unfolding ascii
put_link_lines-requires c =
    let f = c.requires.1 (ap verdict_number c.in-Ok.is ∙ ap run_number c.in-Found.is) in
    let k = c.links_of.ensures in
    (omega (arith, c.put_line.ensures.1), omega (arith, f.1), omega (arith, f.2))

pub returns-in-Found : goal.returns-in-Found
unfolding ascii
returns-in-Found c =
    let e = ap run_number c.in-Found.is in
    let few = (c.requires.1 (ap verdict_number c.in-Ok.is ∙ e)).2 in
    let k : c.links_of.result ≡ k_of c.args.sheet.now = c.links_of.ensures.0 in
    let lines = lines_done k c.put_link_lines.ensures in
    (rw c.in-Ok.is (found_put _ _ e c.put_line.ensures.0 lines), omega (arith, lines.few, few, c.put_line.ensures.1))

pub returns-in-None : goal.returns-in-None
unfolding ascii
returns-in-None c = (
  rw c.in-Ok.is (puts_same (sym (printed_none _ _ (ap run_number c.in-None.is))) c.put_line-in-None.ensures.0),
  omega (arith, c.put_line-in-None.ensures.1),
)

pub returns-in-Stopped : goal.returns-in-Stopped
unfolding ascii
returns-in-Stopped c = (
  rw c.in-Ok.is (puts_same (sym (printed_stopped _ _ (ap run_number c.in-Stopped.is))) c.put_line-in-Stopped.ensures.0),
  omega (arith, c.put_line-in-Stopped.ensures.1),
)

pub returns-in-Err : goal.returns-in-Err
unfolding ascii
returns-in-Err c =
    let n = refusal_few c.in-Err.refusal in
    let e = printed_refused _ _ (λ e. omega arith) (λ e. omega arith) (λ e. omega arith)
    ∙ ap (λ n. line (ascii "refused") n) (sym c.from.ensures) in
    (rw c.in-Err.is (puts_same (sym e) c.put_line-in-Err.ensures.0), omega (arith, c.put_line-in-Err.ensures.1))
