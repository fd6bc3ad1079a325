-- What a class strikes in the own row, in words: whoever is beside none of its live vertices, and is not spared.
use Rattle.std.specs.Prelude.{◌≡◌, ◌&&◌, List, ℕ, ◌+◌}
use Rattle.sets.specs.Below.{any}
use Rattle.sets.specs.Sets.{Set, ◌∩◌, ◌∪◌}
use Rattle.rows.specs.Rows.{set_at, row_at, Outside}

-- the neighbours of the members of S below m: u is in the row of one of them
unfoldable pub beside : List ℕ → ℕ → Set → ℕ → ℕ → Set
beside p w S graph m u = any m (λ v. S v && row_at p w graph v u)

-- the class with its mask at m has struck: of the own row is left what row 2 spares, and what is beside a live vertex
-- of the class
pub record StruckBy (w m graph n : ℕ) (p p' : List ℕ) : Type 0 where
  pub own : set_at p' w 0 ≡ set_at p w 0 ∩ (set_at p w (w + w) ∪ beside p w (set_at p w 0 ∩ set_at p w m) graph n)
  pub rest : Outside 0 (w + w + w) p p'

-- the same in a sweep: row 3 keeps the classes swept so far, which with this one are spared
pub record SweptBy (w m graph n : ℕ) (p p' : List ℕ) : Type 0 where
  pub kept : set_at p' w (w + w + w) ≡ set_at p w (w + w + w) ∪ set_at p w m
  pub own : set_at p' w 0 ≡ set_at p w 0 ∩ (set_at p' w (w + w + w) ∪ beside p w (set_at p w 0 ∩ set_at p w m) graph n)
  pub rest : Outside 0 (w + w + w + w) p p'
