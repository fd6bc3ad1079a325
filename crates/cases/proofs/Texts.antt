-- The texts with known answers have them.
use Rattle.cases.specs.Texts.{TextsHold}
use Rattle.cases.proofs.Opened.{open_sets, open_sheet, open_graph, open_lines, open_export, open_reading, open_import}

pub texts_hold : TextsHold
unfolding open_sets open_sheet open_graph open_lines open_export open_reading open_import
texts_hold = tt
