use Rattle.std.proofs.Common.{get_or, arith, rules}
use Rattle.graph_read.proofs.Numbers.{digit_is, digit_small, so_far_none, so_far_more, digits_stop, digits_all}
use Rattle.graph_read.proofs.read_digits.Goals as goal

pub loop-i-init : goal.loop-i-init
loop-i-init c =
    (search rules, so_far_none _ _ _ c.requires.1)

pub returns-then-not-is_ascii_digit : goal.returns-then-not-is_ascii_digit
returns-then-not-is_ascii_digit c =
    digits_stop c.loop-i.invariant.1 (omega arith) (digit_is _ c.is_ascii_digit.ensures.value c.if-not-is_ascii_digit.true)

pub overflow_sub-b : goal.overflow_sub-b
overflow_sub-b c =
    let d = digit_small (get_or c.args.text.now c.loop-i.i 0) (digit_is _ c.is_ascii_digit.ensures.value c.if-not-is_ascii_digit.false) in
    omega (arith, d.0)

pub push-value-requires : goal.push-value-requires
push-value-requires c =
    let d = digit_small (get_or c.args.text.now c.loop-i.i 0) (digit_is _ c.is_ascii_digit.ensures.value c.if-not-is_ascii_digit.false) in
    (c.loop-i.invariant.0, omega (arith, d.0, d.1))

pub loop-i-preserved : goal.loop-i-preserved
loop-i-preserved c =
    let p = c.push-value.ensures in (
      p.small,
      so_far_more c.loop-i.invariant.1 (omega arith) (digit_is _ c.is_ascii_digit.ensures.value c.if-not-is_ascii_digit.false)
          (rw (← c.from.ensures) p),
    )

pub returns : goal.returns
returns c =
    digits_all c.loop-i.invariant.1 (omega arith)
