-- `rows::row_at` meets its contract. Row v of n lies inside.
use Rattle.std.proofs.Common.{rules}
use Rattle.rows.proofs.Rows.{row_inside}
use Rattle.rows.proofs.row_at.Goals as goal

pub overflow_mul-result : goal.overflow_mul-result
overflow_mul-result c =
    let r = row_inside c.args.v c.args.n c.args.w c.requires.0 in search rules

pub overflow_add-result : goal.overflow_add-result
overflow_add-result c =
    let r = row_inside c.args.v c.args.n c.args.w c.requires.0 in search rules

pub returns : goal.returns
returns c =
    let r = row_inside c.args.v c.args.n c.args.w c.requires.0 in search rules
