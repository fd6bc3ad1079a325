-- `rows::next_member` meets its contract. The part that is lent is the row.
use Rattle.std.proofs.Common.{◌+◌, ◌-◌, ◌≡◌, arith}
use Rattle.rows.specs.Rows.{set_at}
use Rattle.rows.proofs.Rows.{row_length}
use Rattle.rows.proofs.next_member.Goals as goal

pub returns : goal.returns
unfolding set_at
returns c =
    let a = c.args in
    let e : a.a + a.w - a.a ≡ a.w = omega arith in
    let n = row_length a.part.now a.w a.a c.requires.0 in
    rw (e, n) at c.next_member.ensures
