-- `number_bytes::byte_of` meets its contract.
use Rattle.std.proofs.Common.{sym}
use Rattle.number_bytes.proofs.NumberBytes.{byte_in, byte_past}
use Rattle.number_bytes.proofs.byte_of.Goals as goal

pub returns-in-Some : goal.returns-in-Some
returns-in-Some g c =
    let at = c.in-Some.ensures.lookup in
    let is = g.met.T.Number.converts_to_value _ _ c.into-number.ensures in
    rw (c.to_le_bytes.ensures, c.BYTES-in-Some.ensures)
    (byte_in g.T.Number.value _ _ _ _ _ _ g.T.Number.width c.BYTES.ensures at.3.0 at.1 is)

pub returns-in-None : goal.returns-in-None
returns-in-None g c =
    sym (byte_past g.T.Number.value _ _ _ _ c.BYTES.ensures c.in-None.ensures.lookup.3)
