-- `graph_sheet::joins::two_links` meets its contract.
use Rattle.graph_sheet.proofs.Pairing.{two_made}
use Rattle.graph_sheet.proofs.joins.two_links.Goals as goal

pub returns : goal.returns
returns c =
    two_made _ _ _ _ _ c.requires.1 c.requires.2 c.requires.3
