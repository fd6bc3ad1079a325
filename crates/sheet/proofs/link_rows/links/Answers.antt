use Rattle.std.proofs.Common.{◌*◌, ◌+◌, ◌<◌, ◌≡◌, sym, arith}
use Rattle.sets.proofs.Tests.{and_in}
use Rattle.sets.proofs.Below.{all_none, all_step, sum_more, sum_none}
use Rattle.sheet_rows.specs.Rows.{row_count}
use Rattle.sheet.proofs.Causes.{unless_false, unless_true}
use Rattle.sheet.proofs.Links.{links_false, links_true, sum_false, row_bad, row_link}
use Rattle.sheet.proofs.link_rows.links.Goals as goal

pub loop-l-init : goal.loop-l-init
loop-l-init c = record { right = all_none _; summed = sym (sum_none _); small = omega arith }

pub returns-in_default : goal.returns-in_default
returns-in_default c =
    let a = c.args in
    let v = c.loop-l in
    let w = row_bad a.bytes a.p.now v.l v.sum v.invariant.summed c.in_default.ensures in
    rw (links_false a.bytes a.p.now a.k a.n v.l (omega arith) w)

pub loop-l-preserved : goal.loop-l-preserved
loop-l-preserved c =
    let a = c.args in
    let v = c.loop-l in
    let known = c.type_inv.p in
    let r = row_link a.bytes a.p.now v.l v.sum _ v.invariant.summed c.in-Some.ensures in
    let small : row_count a.bytes a.p.now v.l < 65536 =
    omega (arith, known (a.bytes * v.l + 2), known (a.bytes * v.l + 2 + 1)) in
    record {
      right = rw all_step (and_in v.invariant.right r.0);
      summed = omega (arith, sum_more v.l (row_count a.bytes a.p.now));
      small = omega arith;
    }

pub returns-then-sum-n : goal.returns-then-sum-n
returns-then-sum-n c =
    let a = c.args in
    let v = c.loop-l in
    let done : v.l ≡ a.k = omega arith in
    let rows = rw done at v.invariant in
    rw (sum_false a.bytes a.p.now a.k a.n v.sum rows.right rows.summed (λ e. omega arith))

pub returns-then-not-wide : goal.returns-then-not-wide
returns-then-not-wide c =
    let a = c.args in
    let v = c.loop-l in
    let done : v.l ≡ a.k = omega arith in
    let rows = rw done at v.invariant in
    rw (links_true a.bytes a.p.now a.k a.n v.sum rows.right rows.summed (omega arith))
    (unless_false _ 16 c.if-not-wide.true)

pub returns : goal.returns
returns c =
    let a = c.args in
    let v = c.loop-l in
    let done : v.l ≡ a.k = omega arith in
    let rows = rw done at v.invariant in
    rw (links_true a.bytes a.p.now a.k a.n v.sum rows.right rows.summed (omega arith))
    (unless_true _ 16 c.if-not-wide.false)
