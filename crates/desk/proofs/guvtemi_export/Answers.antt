-- `desk::guvtemi_export` meets its contract.
use Rattle.desk.proofs.Numbers.{export_handed}
use Rattle.desk.proofs.guvtemi_export.Goals as goal

pub exported_number-requires : goal.exported_number-requires
exported_number-requires c =
    let G = c.export.ensures in (G.graph_few, G.counts_few)

pub returns : goal.returns
returns c =
    export_handed c.export.ensures c.exported_number.ensures
