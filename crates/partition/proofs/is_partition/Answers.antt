-- `partition::is_partition` meets its contract. A list of another length, or with a class that is none of the k, is
-- refused before the masks are written.
use Rattle.std.proofs.Common.{sym, ◌∙◌, arith}
use Rattle.partition.proofs.Testing.{tested_length, tested_placed, tested_alone}
use Rattle.partition.proofs.is_partition.Goals as goal

pub returns-then-cls-place : goal.returns-then-cls-place
returns-then-cls-place c =
    tested_length (λ e. omega arith)

pub returns-then-not-is_placed : goal.returns-then-not-is_placed
returns-then-not-is_placed c =
    tested_placed (omega arith) (sym c.is_placed.ensures
    ∙ c.if-not-is_placed.true)

pub returns : goal.returns
returns c =
    tested_alone (omega arith) (sym c.is_placed.ensures ∙ c.if-not-is_placed.false)
    c.requires.0 c.put_masks.ensures c.all_alone.ensures
