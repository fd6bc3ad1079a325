-- `graph_read::read_number` meets its contract.
use Rattle.std.proofs.Common.{get_or, arith}
use Rattle.graph_read.proofs.Numbers.{digit_is, digit_small, told_none, told_zero, told_bad, told_digits}
use Rattle.graph_read.proofs.read_number.Goals as goal

pub returns-then-at-text : goal.returns-then-at-text
returns-then-at-text c =
    told_none _ _ c.if-at-text.true

pub returns-then-b-eq48 : goal.returns-then-b-eq48
returns-then-b-eq48 c =
    told_zero _ _ c.if-at-text.false c.if-b-eq48.true

pub returns-then-not-is_ascii_digit : goal.returns-then-not-is_ascii_digit
returns-then-not-is_ascii_digit c =
    told_bad _ _ c.if-at-text.false c.if-b-eq48.false
    (digit_is _ c.is_ascii_digit.ensures.value c.if-not-is_ascii_digit.true)

pub overflow_sub-b : goal.overflow_sub-b
overflow_sub-b c =
    let d = digit_small (get_or c.args.text.now c.args.at 0) (digit_is _ c.is_ascii_digit.ensures.value c.if-not-is_ascii_digit.false) in
    omega (arith, d.0)

pub read_digits-requires : goal.read_digits-requires
read_digits-requires c =
    let d = digit_small (get_or c.args.text.now c.args.at 0) (digit_is _ c.is_ascii_digit.ensures.value c.if-not-is_ascii_digit.false) in
    (omega arith, omega (arith, d.0, d.1))

pub returns : goal.returns
returns c =
    told_digits _ _ c.if-at-text.false c.if-b-eq48.false
    (digit_is _ c.is_ascii_digit.ensures.value c.if-not-is_ascii_digit.false) c.from.ensures c.read_digits.ensures
