-- `rules::plans::cells_spare` meets its contract.
use Rattle.spacing.proofs.Spacing.{read_back}
use Rattle.rules.specs.Plans.{spare_taken}
use Rattle.rules.proofs.plans.cells_spare.Goals as goal

pub spare-requires : goal.spare-requires
spare-requires c =
    let h = c.requires in
    record {
      accepted = h.0.accepted;
      apart = h.1;
      link_a = h.2;
      link_b = h.3;
      in_a = c.cell_vertex-u.ensures.1;
      in_b = c.cell_vertex-v.ensures.1;
    }

pub returns : goal.returns
unfolding spare_taken
returns c =
    read_back {z = c.spare.result} c.spare.type_inv
    (rw (← c.cell_vertex-u.ensures.0, ← c.cell_vertex-v.ensures.0) c.spare.ensures)
