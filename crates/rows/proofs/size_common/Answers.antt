-- `rows::size_common` meets its contract. The parts that are lent are the rows.
use Rattle.std.proofs.Common.{◌+◌, ◌-◌, ◌≡◌, arith}
use Rattle.rows.specs.Rows.{set_at}
use Rattle.rows.proofs.Rows.{row_length}
use Rattle.rows.proofs.size_common.Goals as goal

pub returns : goal.returns
unfolding set_at
returns c =
    let a = c.args in
    let e : a.a + a.w - a.a ≡ a.w = omega arith in
    let f : a.b + a.w - a.b ≡ a.w = omega arith in
    let n = row_length a.part.now a.w a.a c.requires.0 in
    simp (e, f, n) at c.size_common.ensures
