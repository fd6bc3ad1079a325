-- `rows::is_empty_common` meets its contract. The parts that are lent are the rows.
use Rattle.std.proofs.Common.{◌+◌, ◌-◌, ◌≡◌, arith}
use Rattle.rows.specs.Rows.{set_at}
use Rattle.rows.proofs.is_empty_common.Goals as goal

pub returns : goal.returns
unfolding set_at
returns c =
    let a = c.args in
    let e : a.a + a.w - a.a ≡ a.w = omega arith in
    let f : a.b + a.w - a.b ≡ a.w = omega arith in
    simp (e, f) at c.is_empty_common.ensures
