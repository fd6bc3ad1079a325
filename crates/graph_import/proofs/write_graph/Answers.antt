-- `graph_import::write_graph` meets its contract, cause by cause.
use Rattle.std.proofs.Common.{arith}
use Rattle.graph_import.proofs.Outcomes.{many_gives, long_gives, sheet_gives}
use Rattle.graph_import.proofs.write_graph.Goals as goal

pub returns-then-t-gt8192 : goal.returns-then-t-gt8192
returns-then-t-gt8192 c =
    let T = c.count_rules-t.ensures.1.totals in
    many_gives c.args.counts.now c.args.codes.now c.requires.0 _ T c.if-t-gt8192.true c.requires.3

pub returns-then-sheet-sheet_bytes : goal.returns-then-sheet-sheet_bytes
returns-then-sheet-sheet_bytes c =
    let T = c.count_rules-t.ensures.1.totals in
    long_gives c.args.counts.now c.args.codes.now c.requires.0 _ T
    (omega (arith, c.if-sheet-sheet_bytes.true, c.sheet_bytes.ensures))
    c.requires.3

pub returns : goal.returns
returns c =
    let T = c.count_rules-t.ensures.1.totals in
    sheet_gives c.args.counts.now c.args.codes.now c.requires.0 _ T
    (omega (arith, c.if-t-gt8192.false))
    (omega (arith, c.if-sheet-sheet_bytes.false, c.sheet_bytes.ensures))
    c.requires.3
    c.put_sheet.ensures
