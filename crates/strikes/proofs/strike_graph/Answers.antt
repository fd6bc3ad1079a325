use Rattle.std.proofs.Common.{◌≡◌, ◌+◌, arith}
use Rattle.rules.specs.Job.{job_with}
use Rattle.rule_strikes.proofs.Strikes.{rows_join, fit_same}
use Rattle.strikes.proofs.Struck.{graph_struck, root_stays}
use Rattle.strikes.proofs.strike_graph.Goals as goal

pub strike_row-requires : goal.strike_row-requires
strike_row-requires c =
    let h = c.requires.0 in
    let r = c.loop-u.invariant.rest in (
      record { accepted = h.accepted; list = h.list; freqs = h.freqs; fit = fit_same h.fit r; after = h.after },
      omega arith,
      root_stays h.after r c.requires.1,
    )

pub loop-u-preserved : goal.loop-u-preserved
loop-u-preserved c =
    let l = c.loop-u in
    rows_join _ _ _ _ 0 l.u (l.u + 1) (omega arith) (omega arith) (omega arith) l.invariant c.strike_row.ensures

pub returns : goal.returns
returns c =
    let e : c.loop-u.u ≡ c.args.place.n = omega arith in
    let job = job_with c.args.sheet.now c.args.channels.now in
    graph_struck job (rw e at c.loop-u.invariant) c.requires.2
