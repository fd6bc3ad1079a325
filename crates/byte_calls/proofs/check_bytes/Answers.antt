-- `byte_calls::check_bytes` meets its contract: as many cells are checked as there are in the bytes, up to 128.
use Prim.Native.Nat.{ℕ, ◌/◌, min}
use mathlib.Core.Path.{◌≡◌, sym, ◌∙◌}
use native.Mathlib.Nat.{min-le_left}
use native.Mathlib.Omega.{arith}
use lib.ListN.{length, take, replicate}
use lib.Seq.{length-take-le}
use Rattle.rules.specs.Job.{job_with}
use Rattle.byte_calls.specs.ByteCalls.{cell_in, cells_in, checked_in}
use Rattle.byte_calls.proofs.FewerCells.{lent_checked}
use Rattle.byte_calls.proofs.check_bytes.Goals as goal

pub slice_bounds-check_into-end : goal.slice_bounds-check_into-end
slice_bounds-check_into-end c =
    let n = c.lent-m in
    sym (length-take-le n.result (replicate 128 0) n.ensures.1)

pub check_into-requires : goal.check_into-requires
check_into-requires c =
    let a = c.args in
    let n = c.lent-m in
    let m = n.result in
    let e : length {A = ℕ} (take m (replicate 128 0)) ≡ m = length-take-le m (replicate 128 0) n.ensures.1 in
    omega (arith, n.ensures.0, min-le_left (length a.bytes.now / 4) 128)

pub returns : goal.returns
unfolding checked_in cells_in
returns c =
    let a = c.args in
    let n = c.lent-m in
    let m = n.result in
    let e : length {A = ℕ} (take m (replicate 128 0)) ≡ min (length a.bytes.now / 4) 128 =
    length-take-le m (replicate 128 0) n.ensures.1 ∙ n.ensures.0 in
    let job = job_with a.sheet.now a.channels.now in
    c.check_into.ensures ∙ lent_checked job (cell_in a.bytes.now) (length a.bytes.now / 4) _ e
