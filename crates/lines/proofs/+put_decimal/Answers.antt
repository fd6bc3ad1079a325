use Rattle.std.proofs.Common.{sym, arith}
use Rattle.output.proofs.Puts.{puts_then, puts_same}
use Rattle.lines.proofs.Decimals.{decimal_more, decimal_length}
use Rattle.lines.proofs.+put_decimal.Goals as goal

pub put_decimal-requires : goal.put_decimal-requires
put_decimal-requires t c =
    (omega (arith, c.decreases), omega (arith, c.requires, decimal_length c.args.n (omega arith) (omega arith)))

pub put_byte-requires : goal.put_byte-requires
put_byte-requires t c =
    omega (arith, c.requires, decimal_length c.args.n (omega arith) (omega arith), c.put_decimal.ensures.wrote.end)

pub returns : goal.returns
returns t c =
    puts_same (sym (decimal_more c.args.n (omega arith) (omega arith)))
    (puts_then c.put_decimal.ensures (rw c.last_digit.ensures at c.put_byte.ensures))
