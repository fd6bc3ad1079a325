-- `lines::put_ending` meets its contract.
use Rattle.std.proofs.Common.{arith}
use Rattle.output.proofs.Puts.{puts_then}
use Rattle.lines.specs.Lines.{ascii, ending}
use Rattle.lines.proofs.Decimals.{decimal_few}
use Rattle.lines.proofs.put_ending.Goals as goal

pub put_decimal-requires : goal.put_decimal-requires
put_decimal-requires c = omega (arith, decimal_few c.args.n (omega arith), c.put_byte.ensures.wrote.end)

pub put_byte-requires-2 : goal.put_byte-requires-2
put_byte-requires-2 c =
    omega (arith, decimal_few c.args.n (omega arith), c.put_byte.ensures.wrote.end, c.put_decimal.ensures.wrote.end)

pub returns : goal.returns
unfolding ending ascii
returns c =
    let l = decimal_few c.args.n (omega arith) in
    let a = c.put_byte.ensures in
    let b = c.put_decimal.ensures in
    let d = c.put_byte-2.ensures in
    (puts_then (puts_then a b) d, omega (arith, l, a.wrote.end, b.wrote.end, d.wrote.end))
