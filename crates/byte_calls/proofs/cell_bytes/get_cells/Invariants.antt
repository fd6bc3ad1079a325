-- `byte_calls::cell_bytes::get_cells` meets its contract: the first i cells are those in the bytes.
use Rattle.std.proofs.Common.{◌≡◌, ◌++◌, drop}
use Rattle.sets.specs.Below.{tabulate}
use Rattle.byte_calls.specs.ByteCalls.{cell_in}
use Rattle.byte_calls.proofs.cell_bytes.get_cells.Given as goal

abbrev pub invariant-loop-i : goal.invariant-loop-i
invariant-loop-i l =
    l.to ≡ tabulate l.i (cell_in l.from) ++ drop l.i l.initial.to
