-- `spares_bytes::spares_bytes` meets its contract: as many cells and places are lent as there are in the bytes, up to
-- 128 and 16,384.
use Prim.Native.Nat.{ℕ, ◌/◌, min}
use mathlib.Core.Path.{◌≡◌, sym, ◌∙◌}
use native.Mathlib.Nat.{min-le_left}
use native.Mathlib.Omega.{arith}
use lib.IntN.{ℤ, pos}
use lib.ListN.{length, take, replicate}
use lib.Seq.{length-take-le}
use Rattle.rules.specs.Job.{job_with}
use Rattle.byte_calls.specs.ByteCalls.{cell_in, cells_in}
use Rattle.spares_bytes.proofs.FewerPlaces.{answer_lent, bytes_lent}
use Rattle.spares_bytes.proofs.spares_bytes.Goals as goal

pub slice_bounds-spares_into-end : goal.slice_bounds-spares_into-end
slice_bounds-spares_into-end c =
    sym (length-take-le c.lent-m.result (replicate 128 0) (omega arith))

pub slice_bounds-spares_into-end-2 : goal.slice_bounds-spares_into-end-2
slice_bounds-spares_into-end-2 c =
    sym (length-take-le c.lent-n.result (replicate 16384 (pos 0)) (omega arith))

pub slice_bounds-spares_into-end-3 : goal.slice_bounds-spares_into-end-3
slice_bounds-spares_into-end-3 c =
    sym (length-take-le c.lent-n.result (replicate 16384 0) (omega arith))

pub spares_into-requires : goal.spares_into-requires
spares_into-requires c =
    let a = c.args in
    let n = c.lent-m in
    let p = c.lent-n in
    let e : length {A = ℕ} (take n.result (replicate 128 0)) ≡ n.result =
    length-take-le n.result (replicate 128 0) (omega arith) in (
      omega (arith, n.ensures.0, min-le_left (length a.from.now / 4) 128),
      length-take-le p.result (replicate 16384 0) (omega arith)
          ∙ sym (length-take-le p.result (replicate 16384 (pos 0)) (omega arith)),
    )

pub returns : goal.returns
unfolding cells_in
returns c =
    let n = c.lent-m in
    let p = c.lent-n in
    let a = c.args in
    let job = job_with a.sheet.now a.channels.now in
    let g = cell_in a.from.now in
    let m = length a.from.now / 4 in
    let room = length a.to.now / 4 in
    let e : length {A = ℕ} (take n.result (replicate 128 0)) ≡ min m 128 =
    length-take-le n.result (replicate 128 0) (omega arith) ∙ n.ensures.0 in
    let f : length {A = ℤ} (take p.result (replicate 16384 (pos 0))) ≡ min room 16384 =
    length-take-le p.result (replicate 16384 (pos 0)) (omega arith) ∙ p.ensures.0 in
    let E = c.spares_into.ensures in
    record {
      number = E.0 ∙ answer_lent job g m _ room _ e f;
      bytes = E.1 ∙ bytes_lent job g m _ room _ e f (length a.to.now);
    }
