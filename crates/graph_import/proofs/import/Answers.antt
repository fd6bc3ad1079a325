-- `graph_import::import` meets its contract: the output is zero before.
use Rattle.zeros.proofs.Zeros.{zero_again, zero_length}
use Rattle.graph_import.proofs.Outcomes.{gives_sized}
use Rattle.graph_import.proofs.import.Goals as goal

pub import_zeroed-requires : goal.import_zeroed-requires
import_zeroed-requires c =
    zero_again _ _ c.zero.ensures

pub returns : goal.returns
returns c =
    let s = c.args in
    let size = zero_length _ _ c.zero.ensures in
    gives_sized s.text.now s.sizes.now size c.import_zeroed.ensures
