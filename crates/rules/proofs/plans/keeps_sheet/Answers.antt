-- `rules::plans::keeps_sheet` meets its contract.
use Rattle.std.proofs.Common.{◌∙◌, sym}
use Rattle.rules.specs.Plans.{keeps, keeps_sheet}
use Rattle.rules.proofs.plans.keeps_sheet.Goals as goal

pub returns-then-not-cells_listed : goal.returns-then-not-cells_listed
unfolding keeps_sheet keeps
returns-then-not-cells_listed c =
    rw (← c.cells_listed.ensures, c.if-not-cells_listed.true)

pub links_kept-requires : goal.links_kept-requires
links_kept-requires c =
    let h = c.requires in
    record {
      accepted = h.0;
      enough = h.1;
      listed = sym c.cells_listed.ensures ∙ c.if-not-cells_listed.false;
    }

pub returns : goal.returns
unfolding keeps_sheet keeps
returns c =
    let h = c.cells_listed in rw (← h.ensures, c.if-not-cells_listed.false)
    c.links_kept.ensures
