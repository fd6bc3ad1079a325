-- `spares_bytes::spares_into` meets its contract.
use mathlib.Core.Path.{ap, ◌∙◌}
use mathlib.Core.List.{List}
use native.Mathlib.Omega.{arith}
use Prim.Native.Nat.{ℕ}
use lib.ListN.{length}
use Rattle.byte_calls.specs.ByteCalls.{cell_bytes}
use Rattle.spares_bytes.proofs.FewerPlaces.{table_bits_lem}
use Rattle.spares_bytes.proofs.spares_into.Goals as goal

pub get_bits-requires : goal.get_bits-requires
get_bits-requires c =
    omega (arith, c.requires.1, c.spares-answer.ensures.table.size)

pub returns : goal.returns
returns c =
    let a = c.args in
    let e = c.get_cells.ensures in
    let A = rw e at c.spares-answer.ensures in
    let B = rw c.requires.1 at c.get_bits.ensures in (
      c.from.ensures ∙ c.check_number.ensures ∙ A.answer,
      c.put_numbers.ensures
          ∙ ap (λ (t : List ℕ). cell_bytes t (length a.to.now)) (B ∙ table_bits_lem _ _ _ _ A.table),
    )
