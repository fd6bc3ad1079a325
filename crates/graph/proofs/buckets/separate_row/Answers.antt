-- `graph::buckets::separate_row` meets its contract.
use Rattle.graph.specs.Buckets.{separated}
use Rattle.rule_strikes.proofs.Strikes.{row_written}
use Rattle.graph.proofs.buckets.separate_row.Goals as goal

pub returns : goal.returns
returns c =
    let a = c.args in
    row_written (separated a.fs.now a.place.n) _ _ _ a.u _ c.requires.5
    c.row_at-row.ensures.here
    (rw c.freq.ensures.0 at c.strike_bucket.ensures)
