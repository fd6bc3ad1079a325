-- The rows of a sheet as they are put.
use Rattle.std.specs.Prelude.{Bool, cond, List, [], ◌++◌, ℕ, ◌/◌, ◌%◌, eqb, length}
use Rattle.rule_sections.specs.Rules.{most_khz}
use Rattle.wire.specs.Fields.{bytes16, bytes32}
use Rattle.dimacs.specs.Lists.{for_each, join_to}
use Rattle.dimacs.specs.Reading.{count_of}
use Rattle.dimacs.specs.Made.{pairs_of, is_ruled, pair_row}
use Rattle.graph_sheet.specs.declared.joins.Two.{Two}
use Rattle.graph_sheet.specs.Pairs.{joined_in}

-- the rule row of links a and b that are joined by so many pairs, after so many pairs of earlier rules
unfoldable pub rule_row_bytes : ℕ → ℕ → ℕ → ℕ → List ℕ
rule_row_bytes a b pairs before =
    bytes16 a ++ bytes16 b ++ bytes16 (cond (eqb pairs 0) 1 3) ++ bytes16 pairs ++
    bytes32 (cond (eqb pairs 0) most_khz before)

-- the pair row of positions x and y of two links, if they are adjacent
unfoldable pub pair_row_in : (ℕ → ℕ → Bool) → Two → ℕ → ℕ → List ℕ
pair_row_in adj p x y = cond (joined_in adj p x y) (bytes16 x ++ bytes16 y) []

-- the pair rows of position x of the first link
unfoldable pub pair_rows_in : (ℕ → ℕ → Bool) → Two → ℕ → List ℕ
pair_rows_in adj p x = join_to p.width (pair_row_in adj p x)

-- the pair rows of the links with the code z, if they get a rule
unfoldable pub pair_rows_at : List ℕ → (ℕ → ℕ → Bool) → ℕ → List ℕ
pair_rows_at cs adj z =
    let a = z / length cs in
    let b = z % length cs in
    cond (is_ruled cs adj z) (for_each (pair_row (count_of cs b)) (pairs_of cs adj a b)) []
