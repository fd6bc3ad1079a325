-- `partition::masks::add_member` meets its contract. One of the k rows is written, or none where there is no such class.
use Rattle.partition.proofs.Members.{marked}
use Rattle.partition.proofs.masks.add_member.Goals as goal

pub returns : goal.returns
returns c =
    marked c.if-c-k.false c.row_at-to.ensures c.insert.ensures
