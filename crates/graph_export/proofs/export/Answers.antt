-- `graph_export::export` meets its contract: both outputs are zero before.
use Rattle.zeros.proofs.Zeros.{zero_again, zero_length}
use Rattle.graph_export.proofs.Outcomes.{gives_sized}
use Rattle.graph_export.proofs.export.Goals as goal

pub export_zeroed-requires : goal.export_zeroed-requires
export_zeroed-requires c =
    let z = c.zero_both.ensures in
    (zero_again _ _ z.0, zero_again _ _ z.1)

pub returns : goal.returns
returns c =
    let z = c.zero_both.ensures in
    gives_sized _ _ _ _ _ (zero_length _ _ z.0) (zero_length _ _ z.1) c.export_zeroed.ensures
