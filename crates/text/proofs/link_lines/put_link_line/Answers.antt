use Rattle.std.proofs.Common.{arith}
use Rattle.output.proofs.Puts.{puts_then}
use Rattle.lines.specs.Lines.{line}
use Rattle.lines.proofs.Decimals.{decimal_few}
use Rattle.text.proofs.link_lines.put_link_line.Goals as goal

pub put_decimal-requires : goal.put_decimal-requires
put_decimal-requires c = omega (arith, decimal_few c.args.link (omega arith))

pub put_ending-requires : goal.put_ending-requires
put_ending-requires c = omega (arith, decimal_few c.args.link (omega arith), c.put_decimal.ensures.wrote.end)

pub returns : goal.returns
unfolding line
returns c =
    let d = decimal_few c.args.link (omega arith) in
    let a = c.put_decimal.ensures in
    (puts_then a c.put_ending.ensures.0, omega (arith, a.wrote.end, d, c.put_ending.ensures.1))
