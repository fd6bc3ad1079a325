-- A rule of kind 3 looks at its list alone, and no other looks at it.
use Rattle.std.proofs.Common.{◌∙◌, arith}
use Rattle.spacing.specs.Spacing.{distance}
use Rattle.pair_test.specs.Pairs.{spare_row}
use Rattle.pair_test.proofs.Laws.{parts_of, row_bounds, widths_small}
use Rattle.spacing.proofs.Spacing.{read_back, by_listed, by_plain}
use Rattle.pair_test.proofs.pairs.spare_of_row.Goals as goal

pub rule_kind-kind-requires : goal.rule_kind-kind-requires
rule_kind-kind-requires c =
    rw c.rule_part-rs.ensures (row_bounds c.requires).row

pub rule_value-value-requires : goal.rule_value-value-requires
rule_value-value-requires c =
    rw c.rule_part-rs.ensures (row_bounds c.requires).row

pub lists_vertices-requires : goal.lists_vertices-requires
lists_vertices-requires c = (
  c.requires,
  rw (← c.rule_part-rs.ensures, ← c.rule_kind-kind.ensures.0) c.if-kind-eq3.true,
)

pub returns-then-kind-eq3 : goal.returns-then-kind-eq3
unfolding spare_row
returns-then-kind-eq3 c =
    read_back {z = c.spare_by.result} c.spare_by.type_inv (
    rw (
      ← c.lists_vertices.ensures,
      ← c.rule_part-rs.ensures,
      ← c.rule_kind-kind.ensures.0,
      ← c.rule_value-value.ensures.0,
    )
    (c.spare_by.ensures ∙ by_listed _ _ 0 _ 0 _ _ c.if-kind-eq3.true))

pub freq-requires : goal.freq-requires
freq-requires c =
    rw c.freq_part-fs.ensures (row_bounds c.requires).freq_u

pub freq-requires-2 : goal.freq-requires-2
freq-requires-2 c =
    let b = row_bounds c.requires in
    rw c.freq_part-fs.ensures b.freq_v

pub overflow_cast-apart : goal.overflow_cast-apart
unfolding distance
overflow_cast-apart c =
    let d = c.distance-apart.ensures in
    record { fits = omega (arith, d, c.freq-2.ensures.1, c.freq.ensures.1) }

pub rule_widths-widths-requires : goal.rule_widths-widths-requires
rule_widths-widths-requires c =
    let b = row_bounds c.requires in
    rw c.rule_part-rs.ensures (b.row, b.row_a, b.row_b)

pub overflow_cast-widths : goal.overflow_cast-widths
overflow_cast-widths c =
    let w = c.rule_widths-widths.ensures in
    let e = c.rule_part-rs.ensures in
    let m = widths_small (parts_of _ c.requires.accepted) c.args.j c.requires.among in
    record { fits = omega (arith, rw e at w, m) }

pub returns : goal.returns
unfolding spare_row
returns c =
    read_back {z = c.spare_by-2.result} c.spare_by-2.type_inv (
    rw (
      ← c.rule_part-rs.ensures,
      ← c.freq_part-fs.ensures,
      ← c.rule_kind-kind.ensures.0,
      ← c.rule_value-value.ensures.0,
      ← c.freq.ensures.0,
      ← c.freq-2.ensures.0,
      ← c.distance-apart.ensures,
      ← c.rule_widths-widths.ensures,
    )
    (c.spare_by-2.ensures ∙ by_plain _ _ _ _ _ _ c.if-kind-eq3.false))
