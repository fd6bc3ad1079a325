-- `count_bytes::count_job_bytes` meets its contract: the library is lent as many cells and counts as there is room for,
-- up to 128 and 1,024.
use Rattle.std.proofs.Common.{◌≡◌, ℕ, ◌/◌, min, length, take, replicate, sym, ◌∙◌, arith}
use lib.Seq.{length-take-le}
use Rattle.rules.specs.Job.{job_with}
use Rattle.count_bytes.specs.CountBytes.{counting_in}
use Rattle.count_bytes.proofs.FewerCounts.{counting_alike, counts_handed}
use Rattle.count_bytes.proofs.count_job_bytes.Goals as goal

pub slice_bounds-count_into-end : goal.slice_bounds-count_into-end
slice_bounds-count_into-end c =
    sym (length-take-le c.lent-m.result (replicate 128 0) (omega arith))

pub slice_bounds-count_into-end-2 : goal.slice_bounds-count_into-end-2
slice_bounds-count_into-end-2 c =
    sym (length-take-le c.lent-u.result (replicate 1024 0) (omega arith))

pub returns : goal.returns
unfolding counting_in
returns c =
    let a = c.args in
    let m = c.lent-m in
    let u = c.lent-u in
    let e : length {A = ℕ} (take m.result (replicate 128 0)) ≡ min (length a.plan.now / 4) 128 =
    length-take-le m.result (replicate 128 0) (omega arith) ∙ m.ensures.0 in
    let f : length {A = ℕ} (take u.result (replicate 1024 0)) ≡ min (length a.tally.now / 8) 1024 =
    length-take-le u.result (replicate 1024 0) (omega arith) ∙ u.ensures.0 in
    counts_handed (counting_alike (job_with a.sheet.now a.channels.now) _ (length a.plan.now / 4) _
    (length a.tally.now / 8) _ e f) c.count_into.ensures
