-- `lines::put_line` meets its contract.
use Rattle.std.proofs.Common.{arith}
use Rattle.output.proofs.Puts.{puts_then}
use Rattle.lines.specs.Lines.{line}
use Rattle.lines.proofs.put_line.Goals as goal

pub put_ending-requires : goal.put_ending-requires
put_ending-requires c = omega (arith, c.put_word.ensures.wrote.end)

pub returns : goal.returns
unfolding line
returns c =
    let a = c.put_word.ensures in
    (puts_then a c.put_ending.ensures.0, omega (arith, a.wrote.end, c.put_ending.ensures.1))
