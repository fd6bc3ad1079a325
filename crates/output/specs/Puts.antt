-- What an `Output` holds after bytes were put.
use Rattle.std.specs.Prelude.{◌≡◌, List, ℕ}
use Rattle.output.specs.Output.{Wrote}
use Rattle.output.specs.declared.Output.{Output}

-- `bytes` were put at the end of o, which is o' now, of the same lent bytes
pub record Puts (bytes : List ℕ) (o o' : Output) : Type 0 where
  pub same : o'.bytes.ghost_name ≡ o.bytes.ghost_name
  pub wrote : Wrote bytes o.bytes.now o.end o'.bytes.now o'.end
