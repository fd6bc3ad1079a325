-- `rules::plans::pair_kept` meets its contract.
use Rattle.std.proofs.Common.{ap, ◌∙◌, arith}
use Rattle.spacing.specs.Spacing.{zero_or_more}
use Rattle.spacing.proofs.Spacing.{read_back}
use Rattle.rules.specs.Plans.{spare_taken, pair_kept}
use Rattle.rules.proofs.plans.pair_kept.Goals as goal

pub cell_vertex-u-requires : goal.cell_vertex-u-requires
cell_vertex-u-requires c =
    (c.requires.0, omega arith)

pub spare_at-requires : goal.spare_at-requires
spare_at-requires c =
    let h = c.requires in
    record {
      accepted = h.0.accepted;
      order = h.1;
      within = h.2;
      sought = h.3;
      in_a = c.cell_vertex-u.ensures.1;
      in_b = c.cell_vertex-v.ensures.1;
    }

pub returns : goal.returns
unfolding pair_kept spare_taken
returns c =
    let z = c.spare_at in
    rw (← c.cell_vertex-u.ensures.0, ← c.cell_vertex-v.ensures.0)
    (c.is_allowed.ensures ∙ ap zero_or_more (read_back z.type_inv z.ensures))
