-- The jobs whose plans are counted compute to what is known of them.
use Rattle.cases.specs.Counting.{CountingsHold}
use Rattle.cases.proofs.Opened.{open_sets, open_sheet, open_graph, open_filters, open_partition, open_planner}
use Rattle.cases.proofs.Opened.{open_channels, open_check, open_counting}

pub countings_hold : CountingsHold
unfolding open_sets open_sheet open_graph open_filters open_partition open_planner open_channels open_check open_counting
countings_hold = tt
