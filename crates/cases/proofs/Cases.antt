-- M1 to M12, and the jobs of Asks 2, 3, 4, 5 and 9, compute to what is known of them.
use Rattle.cases.specs.Cases.{CasesHold}
use Rattle.cases.proofs.Opened.{open_sets, open_sheet, open_graph, open_filters, open_partition, open_planner}
use Rattle.cases.proofs.Opened.{open_text, open_channels, open_check, open_spares}

pub cases_hold : CasesHold
unfolding open_sets open_sheet open_graph open_filters open_partition open_planner open_text open_channels
    open_check open_spares
cases_hold = tt
