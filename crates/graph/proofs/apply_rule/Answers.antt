-- `graph::apply_rule` meets its contract. Both sides of the rule are written.
use Rattle.std.proofs.Common.{arith}
use Rattle.pair_test.proofs.Laws.{links_within}
use Rattle.rule_strikes.proofs.Sides.{fits_a, fits_b}
use Rattle.rule_strikes.proofs.Strikes.{fit_same}
use Rattle.graph.proofs.Rows.{full_a, full_b, rule_built}
use Rattle.graph.proofs.apply_rule.Goals as goal

pub side_of-lower-requires : goal.side_of-lower-requires
side_of-lower-requires c =
    let o = links_within c.requires.rule_row.0.parts c.args.j c.requires.rule_row.0.among in
    rw (c.rule_a-a.ensures.0, c.rule_b-b.ensures.0) (o.0, o.1, o.2)

pub rule_side-requires : goal.rule_side-requires
rule_side-requires c =
    let x = rw (c.rule_a-a.ensures.0, c.rule_b-b.ensures.0)
    at c.side_of-lower.ensures in
    rw x (
      fits_a c.requires.rule_row.0.parts c.args.j c.requires.rule_row.0.among,
      c.requires.rule_row.1,
      omega arith,
      full_a c.requires.rule_row.0.parts c.args.j c.requires.rule_row.0.among c.requires.by_index,
    )

pub side_of-higher-requires : goal.side_of-higher-requires
side_of-higher-requires c =
    let o = links_within c.requires.rule_row.0.parts c.args.j c.requires.rule_row.0.among in
    rw (c.rule_a-a.ensures.0, c.rule_b-b.ensures.0) (o.1, o.0, o.2)

pub rule_side-requires-2 : goal.rule_side-requires-2
rule_side-requires-2 c =
    let ra = c.rule_a-a.ensures.0 in
    let rb = c.rule_b-b.ensures.0 in
    let x = rw (ra, rb) at c.side_of-higher.ensures in
    let y = rw (ra, rb) at c.side_of-lower.ensures in
    let z = c.rule_side.ensures in
    rw x (
      fits_b c.requires.rule_row.0.parts c.args.j c.requires.rule_row.0.among,
      fit_same c.requires.rule_row.1 z.rest,
      omega arith,
      full_b c.requires.rule_row.0.parts c.args.j c.requires.rule_row.0.among (rw y at z) c.requires.by_index,
    )

pub returns : goal.returns
returns c =
    let ra = c.rule_a-a.ensures.0 in
    let rb = c.rule_b-b.ensures.0 in
    let x = rw (ra, rb) at c.side_of-lower.ensures in
    let y = rw (ra, rb) at c.side_of-higher.ensures in
    rule_built c.requires.rule_row.0.parts c.args.j c.requires.rule_row.0.among
    (rw x at c.rule_side.ensures)
    (rw y at c.rule_side-2.ensures) c.requires.by_index
