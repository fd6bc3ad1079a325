-- One digit, two, or three.
use Rattle.std.proofs.Common.{◌≡◌, sym, ap, length, arith, ◌+◌, ◌/◌}
use Rattle.output.proofs.Puts.{puts_same}
use Rattle.lines.proofs.Decimals.{decimal_one, decimal_two, decimal_three}
use Rattle.lines.proofs.put_small.Goals as goal

pub put_byte-requires : goal.put_byte-requires
put_byte-requires c = omega (arith, c.requires.1, ap length (decimal_one c.args.n c.if-n-lt10.true))

pub returns-then-n-lt10 : goal.returns-then-n-lt10
returns-then-n-lt10 c =
    let e : c.last_digit-last.result ≡ 48 + c.args.n = omega (arith, c.last_digit-last.ensures) in
    puts_same (sym (decimal_one c.args.n c.if-n-lt10.true)) (rw e at c.put_byte.ensures)

pub put_word-requires : goal.put_word-requires
put_word-requires c = omega (arith, c.requires.1, ap length (decimal_two c.args.n c.if-n-lt10.false c.if-n-lt100.true))

pub returns-then-n-lt100 : goal.returns-then-n-lt100
returns-then-n-lt100 c =
    let d : c.last_digit-middle.result ≡ 48 + c.args.n / 10 = omega (arith, c.last_digit-middle.ensures) in
    puts_same (sym (decimal_two c.args.n c.if-n-lt10.false c.if-n-lt100.true))
    (rw (d, c.last_digit-last.ensures) at c.put_word.ensures)

pub put_word-requires-2 : goal.put_word-requires-2
put_word-requires-2 c = omega (arith, c.requires.1, ap length (decimal_three c.args.n c.if-n-lt100.false c.requires.0))

pub returns : goal.returns
returns c =
    let d : c.last_digit.result ≡ 48 + c.args.n / 100 = omega (arith, c.last_digit.ensures) in
    puts_same (sym (decimal_three c.args.n c.if-n-lt100.false c.requires.0))
    (rw (d, c.last_digit-middle.ensures, c.last_digit-last.ensures) at c.put_word-2.ensures)
