-- `graph_sheet::sections::put_header` meets its contract.
use Rattle.graph_sheet.proofs.Writing.{header_put}
use Rattle.graph_sheet.proofs.sections.put_header.Goals as goal

pub returns : goal.returns
returns c =
    header_put _ _ _ _ c.put_fulls.ensures
