-- The codes that are kept so far.
use Rattle.std.specs.Prelude.{◌&&◌, ℕ, ltb}
use Rattle.sets.specs.Sets.{Set}

-- those of E below z
unfoldable pub up_to : ℕ → Set → Set
up_to z E v = ltb v z && E v
