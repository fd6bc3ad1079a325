-- `work_words::put_rows` meets its contract: the rows and the layers' masks are written.
use Rattle.std.proofs.Common.{refl, ◌∙◌}
use Rattle.work_words.proofs.Cutting.{may_strike, rows_stay}
use Rattle.work_words.proofs.Filling.{rows_put}
use Rattle.work_words.proofs.put_rows.Goals as goal

pub strike_graph-requires : goal.strike_graph-requires
strike_graph-requires c =
    let P = c.requires in
    let x = c.put_unstruck.ensures in
    let b = c.build_graph.ensures in
    (may_strike P (x.rest.len ∙ b.rest.len), x.here, rows_stay P b x)

pub returns : goal.returns
returns c =
    let P = c.requires in
    rows_put P c.strike_graph.ensures
    (c.put_layers.ensures ∙ rw (P.links, P.room, P.freqs) refl) c.put_masks.ensures
