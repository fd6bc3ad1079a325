use Rattle.std.proofs.Common.{◌-◌, ◌<◌, ◌≡◌, ◌∙◌, arith}
use Rattle.sets.proofs.Below.{sum_none, sum_more, sum_in}
use Rattle.sheet_rows.specs.Rows.{link_count}
use Rattle.sheet.proofs.Links.{link_first_lem, link_sum, link_some, link_in}
use Rattle.rows.proofs.Rows.{outside_then}
use Rattle.rule_strikes.proofs.Strikes.{rows_none, rows_join, fit_same}
use Rattle.graph.proofs.Rows.{every_put}
use Rattle.graph.proofs.start.start_rows.Goals as goal

pub loop-l-init : goal.loop-l-init
loop-l-init c =
    rw (sum_none _) (rows_none _ _ _ _ _ _)

pub start_link-requires : goal.start_link-requires
start_link-requires c =
    let a = c.args in
    let v = c.loop-l in
    let t : v.l < a.place.k = omega arith in
    let L = c.requires.0 in
    let B = c.row_at-last.ensures in
    let x = every_put B c.clear.ensures c.add_span.ensures in
    let i = sum_in a.place.k v.l (link_count a.sheet.now) t in
    let z = link_sum _ _ _ L.links in
    let m = link_some _ _ _ L.links v.l t in (
      L,
      fit_same c.requires.1 (outside_then x.1 v.invariant.rest),
      t,
      B,
      rw B.here (v.invariant.others (a.place.n - 1) (omega arith) (λ d e. omega arith) ∙ (rw B.here at x.0)),
    )

pub loop-l-preserved : goal.loop-l-preserved
loop-l-preserved c =
    let a = c.args in
    let v = c.loop-l in
    let t : v.l < a.place.k = omega arith in
    let L = c.requires.0 in
    let x = c.start_link.ensures in
    let e = link_first_lem _ _ _ L.links v.l t in
    let i = link_in _ _ _ L.links v.l t in
    rw (sum_more v.l (link_count a.sheet.now))
    (rows_join _ _ _ _ _ _ _ (omega arith) (omega arith) (omega arith) v.invariant (rw e at x))

pub returns : goal.returns
returns c =
    let a = c.args in
    let v = c.loop-l in
    let L = c.requires.0 in
    let x = every_put c.row_at-last.ensures c.clear.ensures c.add_span.ensures in
    let e : v.l ≡ a.place.k = omega arith in
    let z = link_sum _ _ _ L.links in
    let R = rw e at v.invariant in
    record { rows = λ u h. R.rows u (omega arith) (omega arith); rest = outside_then x.1 v.invariant.rest }
