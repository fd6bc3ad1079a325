use Rattle.std.proofs.Common.{arith}
use Rattle.lines.proofs.Decimals.{decimal_few}
use Rattle.graph_export.proofs.Walks.{count_put}
use Rattle.graph_export.proofs.texts.put_count.Goals as goal

pub put_decimal-requires : goal.put_decimal-requires
put_decimal-requires c = omega (arith, decimal_few c.args.count (omega arith))

pub put_byte-requires : goal.put_byte-requires
put_byte-requires c = omega (arith, decimal_few c.args.count (omega arith), c.put_decimal.ensures.wrote.end)

pub returns : goal.returns
returns c = (
  count_put c.args.count c.put_decimal.ensures c.put_byte.ensures,
  omega (
    arith,
    decimal_few c.args.count (omega arith),
    c.put_decimal.ensures.wrote.end,
    c.put_byte.ensures.wrote.end,
  ),
)
