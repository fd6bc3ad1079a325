use Rattle.std.proofs.Common.{arith, rules}
use Rattle.graph_read.proofs.Numbers.{told_got}
use Rattle.graph_read.proofs.CountLines.{so_far_none, next_later, bad_line, unfit_line, so_far_more, counts_done}
use Rattle.graph_read.proofs.read_counts.Goals as goal

pub loop-at-init : goal.loop-at-init
loop-at-init c =
    (search rules, search rules, search rules, so_far_none _ _)

pub returns-in_err-line : goal.returns-in_err-line
returns-in_err-line c =
    rw c.from_residual.ensures (bad_line c.loop-at.invariant.3 (omega arith) c.in_err-line.was c.read_field.ensures)

pub returns-then-not-count_fits : goal.returns-then-not-count_fits
returns-then-not-count_fits c =
    let n = told_got c.in_ok-line.was c.read_field.ensures in
    unfit_line c.loop-at.invariant.3 (omega arith) _ _ n (omega arith) c.count_fits.ensures c.if-not-count_fits.true

pub bounds-counts-k : goal.bounds-counts-k
bounds-counts-k c =
    let s = c.count_fits.ensures.small c.if-not-count_fits.false in omega (arith, s.0)

pub overflow_add-k : goal.overflow_add-k
overflow_add-k c =
    let s = c.count_fits.ensures.small c.if-not-count_fits.false in omega (arith, s.0)

pub overflow_add-total : goal.overflow_add-total
overflow_add-total c =
    let s = c.count_fits.ensures.small c.if-not-count_fits.false in omega (arith, s.1)

pub loop-at-smaller : goal.loop-at-smaller
loop-at-smaller c =
    let n = told_got c.in_ok-line.was c.read_field.ensures in
    omega (arith, next_later c.args.text.now c.loop-at.at (omega arith) n, n.within)

pub loop-at-preserved : goal.loop-at-preserved
loop-at-preserved c =
    let n = told_got c.in_ok-line.was c.read_field.ensures in
    let F = c.count_fits.ensures in
    let fine = c.if-not-count_fits.false in
    let s = F.small fine in (
      omega (arith, s.0),
      omega (arith, s.1),
      n.within,
      so_far_more c.loop-at.invariant.3 (omega arith) _ _ n (omega arith) F fine (omega (arith, s.0)),
    )

pub returns : goal.returns
returns c =
    counts_done c.loop-at.invariant.3 (omega arith) (omega arith)
