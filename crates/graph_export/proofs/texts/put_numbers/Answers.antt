use Rattle.std.proofs.Common.{arith}
use Rattle.lines.specs.Lines.{line}
use Rattle.lines.proofs.Decimals.{decimal_few}
use Rattle.output.proofs.Puts.{puts_then}
use Rattle.graph_export.proofs.texts.put_numbers.Goals as goal

pub put_decimal-requires : goal.put_decimal-requires
put_decimal-requires c = omega (arith, decimal_few c.args.a (omega arith), c.put_word.ensures.wrote.end)

pub put_ending-requires : goal.put_ending-requires
put_ending-requires c =
    omega (arith, decimal_few c.args.a (omega arith), c.put_word.ensures.wrote.end, c.put_decimal.ensures.wrote.end)

pub returns : goal.returns
unfolding line
returns c =
    let few = decimal_few c.args.a (omega arith) in
    let a = c.put_word.ensures in
    let b = c.put_decimal.ensures in (
      puts_then (puts_then a b) c.put_ending.ensures.0,
      omega (arith, few, a.wrote.end, b.wrote.end, c.put_ending.ensures.1),
    )
