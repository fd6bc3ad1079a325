-- A byte that fits is written, and one past the end is counted.
use Rattle.std.proofs.Common.{refl, arith}
use Rattle.output.proofs.Wrote.{wrote_byte, past_byte}
use Rattle.output.proofs.Output.put_byte.Goals as goal
use Rattle.output.proofs.Output.put_byte.Goals.{then-self, else-self}

pub returns : goal.returns
returns c = elim c.if-self.branch [
  | then-self w ↦ rw w.self-is (record { same = refl; wrote = wrote_byte _ _ _ (omega arith) })
  | else-self w ↦ rw w.self-is (record { same = refl; wrote = past_byte _ _ _ (omega arith) })
]
