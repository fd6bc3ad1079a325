-- `graph_import::import_read` meets its contract, cause by cause.
use Rattle.std.proofs.Common.{rules}
use Rattle.std.proofs.lemmas.Result.{err_from_is_err_and}
use Rattle.graph_import.proofs.Outcomes.{graph_told, graph_gives, refusal_gives}
use Rattle.graph_import.proofs.import_read.Goals as goal

pub write_graph-requires : goal.write_graph-requires
write_graph-requires c =
    let told = graph_told c.args.text.now c.args.sizes.now _ _ c.read_texts.ensures c.in_ok-s.was in
    (told.graph _ (search rules), c.requires.1, c.requires.3, c.requires.4)

pub returns-in_err-s : goal.returns-in_err-s
returns-in_err-s c =
    let p = err_from_is_err_and c.from_residual.result c.from_residual.ensures.1 in
    rw (p.1, p.2)
    (refusal_gives c.args.text.now c.args.sizes.now _ _ c.requires.4 c.read_texts.ensures c.in_err-s.was)

pub returns : goal.returns
returns c =
    let text = c.args.text.now in
    let sizes = c.args.sizes.now in
    let told = graph_told text sizes _ _ c.read_texts.ensures c.in_ok-s.was in
    graph_gives text sizes _ _ _ told c.write_graph.ensures
