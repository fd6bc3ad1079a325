-- `heaviest::put_graph` meets its contract.
use Rattle.heaviest.proofs.Outcomes.{graph_in_lem, totals_few, sheet_put}
use Rattle.heaviest.proofs.put_graph.Goals as goal

pub count_rules-t-requires : goal.count_rules-t-requires
count_rules-t-requires c =
    let p = c.requires in
    (graph_in_lem _ _ p.0 _ p.2 _ p.1 p.4, p.3, p.6)

pub put_sheet-requires : goal.put_sheet-requires
put_sheet-requires c =
    let p = c.requires in
    let e = c.count_rules-t.ensures in (
      graph_in_lem _ _ p.0 _ p.2 _ p.1 p.4,
      e.0,
      e.1,
      totals_few _ _ p.0 _ p.2 c.args.codes.now p.5 e.1.totals,
    )

pub returns : goal.returns
returns c =
    let p = c.requires in
    sheet_put _ _ p.0 _ p.2 c.args.codes.now p.5 c.put_sheet.ensures
