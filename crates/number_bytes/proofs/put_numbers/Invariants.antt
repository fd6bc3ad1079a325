-- `number_bytes::put_numbers` meets its contract: the first i bytes are those of the numbers.
use Rattle.std.proofs.Common.{◌≡◌, ◌++◌, drop, map}
use Rattle.sets.specs.Below.{tabulate}
use Rattle.number_bytes.specs.NumberBytes.{byte_at}
use Rattle.number_bytes.proofs.put_numbers.Given as goal

abbrev pub invariant-loop-i : goal.invariant-loop-i
invariant-loop-i g l =
    l.to ≡ tabulate l.i (byte_at g.T.Number.BYTES (map g.T.Number.value l.from)) ++ drop l.i l.initial.to
