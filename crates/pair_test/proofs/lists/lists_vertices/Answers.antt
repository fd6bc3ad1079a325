-- `pair_test::lists::lists_vertices` meets its contract.
use Rattle.std.proofs.Common.{◌≡◌, arith}
use Rattle.sheet_rows.specs.Rows.{link_first, rule_a, rule_b}
use Rattle.sheet.specs.Sheet.{rule_part}
use Rattle.pair_test.proofs.Laws.{row_bounds}
use Rattle.pair_test.proofs.lists.lists_vertices.Goals as goal

pub rule_a-requires : goal.rule_a-requires
rule_a-requires c =
    rw c.rule_part-rs.ensures (row_bounds c.requires.0).row

pub link_first-requires : goal.link_first-requires
link_first-requires c =
    rw (c.rule_a.ensures.0, c.rule_part-rs.ensures)
    (row_bounds c.requires.0).row_a

pub overflow_sub-x : goal.overflow_sub-x
overflow_sub-x c =
    let a = c.args in
    let s = a.s.now in
    let e : c.link_first.result ≡ link_first s (rule_a (rule_part s) a.j) =
    rw (
      ← c.rule_part-rs.ensures,
      ← c.rule_a.ensures.0,
    )
    c.link_first.ensures.0 in
    omega (arith, (row_bounds c.requires.0).from_a)

pub rule_b-requires : goal.rule_b-requires
rule_b-requires c =
    rw c.rule_part-rs.ensures (row_bounds c.requires.0).row

pub link_first-requires-2 : goal.link_first-requires-2
link_first-requires-2 c =
    rw (
      c.rule_b.ensures.0,
      c.rule_part-rs.ensures,
    )
    (row_bounds c.requires.0).row_b

pub overflow_sub-y : goal.overflow_sub-y
overflow_sub-y c =
    let a = c.args in
    let s = a.s.now in
    let e : c.link_first-2.result ≡ link_first s (rule_b (rule_part s) a.j) =
    rw (
      ← c.rule_part-rs.ensures,
      ← c.rule_b.ensures.0,
    )
    c.link_first-2.ensures.0 in
    omega (arith, (row_bounds c.requires.0).from_b)

pub rule_value-base-requires : goal.rule_value-base-requires
rule_value-base-requires c =
    let b = row_bounds c.requires.0 in
    rw c.rule_part-rs.ensures b.row

pub rule_count-count-requires : goal.rule_count-count-requires
rule_count-count-requires c =
    let b = row_bounds c.requires.0 in
    rw c.rule_part-rs.ensures b.row

pub lists_pair-requires : goal.lists_pair-requires
lists_pair-requires c =
    let h = c.requires in
    rw (
      c.rule_count-count.ensures.0,
      c.rule_value-base.ensures.0,
      c.pair_part-ps.ensures,
      c.rule_part-rs.ensures,
    )
    ((row_bounds h.0).pairs h.1)

pub returns : goal.returns
returns c =
    rw (
      ← c.rule_part-rs.ensures,
      ← c.pair_part-ps.ensures,
      ← c.rule_a.ensures.0,
      ← c.rule_b.ensures.0,
      ← c.link_first.ensures.0,
      ← c.link_first-2.ensures.0,
      ← c.rule_value-base.ensures.0,
      ← c.rule_count-count.ensures.0,
    )
    c.lists_pair.ensures
