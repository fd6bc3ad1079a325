-- `graph_sheet::marks::rule_in` meets its contract.
use Rattle.graph_sheet.proofs.Marking.{mark_read}
use Rattle.graph_sheet.proofs.marks.rule_in.Goals as goal

pub returns : goal.returns
returns c =
    mark_read _ c.checked_sub.ensures
