-- `partition::is_alone` meets its contract. The row of v is set against the mask of its class.
use Rattle.partition.proofs.Testing.{alone}
use Rattle.partition.proofs.is_alone.Goals as goal

pub returns : goal.returns
returns c =
    alone c.requires.3 c.requires.4 c.row_at-a.ensures (rw c.from.ensures at c.row_at-b.ensures) c.is_empty_common.ensures
