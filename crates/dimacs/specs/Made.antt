-- The sheet of a graph: the counts of its links, and which of its vertices are adjacent. "Import writes form 1."
use Rattle.std.specs.Prelude.{Bool, not, cond, ◌&&◌, ◌||◌, List, ◌++◌, ℕ, ◌+◌, ◌*◌, ◌/◌, ◌%◌, ltb, eqb, length, get_or}
use Rattle.sets.specs.Below.{sum_to}
use Rattle.sets.specs.Sets.{Set}
use Rattle.sheet_rows.specs.Rows.{header_bytes}
use Rattle.rule_sections.specs.Rules.{most_khz}
use Rattle.sheet.specs.Sheet.{freqs_at, rules_at, pairs_at, end_at}
use Rattle.wire.specs.Fields.{bytes16, bytes32}
use Rattle.dimacs.specs.Lists.{select, for_each, join_to}
use Rattle.dimacs.specs.Reading.{count_of, first_of, vertices_of}

-- adjacency by the codes of edges, either way round
unfoldable pub joined : ℕ → Set → ℕ → ℕ → Bool
joined n E u v = (ltb u n && ltb v n) && (E (u * n + v) || E (v * n + u))

-- the form, and the bytes of its link rows
abbrev pub made_form : ℕ
made_form = 1

abbrev pub made_bytes : ℕ
made_bytes = 4

-- the header
unfoldable pub header : ℕ → ℕ → ℕ → ℕ → List ℕ
header k n q t =
    bytes32 made_form ++ bytes32 k ++ bytes32 n ++ bytes32 q ++ bytes32 t ++
    bytes32 header_bytes ++ bytes32 (freqs_at made_bytes k) ++ bytes32 (rules_at made_bytes k n) ++
    bytes32 (pairs_at made_bytes k n q) ++ bytes32 (end_at made_bytes k n q t)

-- "Link row: 16-bit first frequency, 16-bit count"
unfoldable pub link_row_of : List ℕ → ℕ → List ℕ
link_row_of cs l = bytes16 (first_of cs l) ++ bytes16 (count_of cs l)

-- "An imported vertex gets its own number as frequency": its number in the text, from 1
unfoldable pub freq_row : ℕ → List ℕ
freq_row v = bytes32 (v + 1)

unfoldable pub link_rows : List ℕ → List ℕ
link_rows cs = join_to (length cs) (link_row_of cs)

unfoldable pub freq_rows : List ℕ → List ℕ
freq_rows cs = join_to (vertices_of cs) freq_row

-- "Pair row: 16-bit positions": of the code z, where the second link has m frequencies
unfoldable pub pair_row : ℕ → ℕ → List ℕ
pair_row m z = bytes16 (z / m) ++ bytes16 (z % m)

module _ (cs : List ℕ) (adj : ℕ → ℕ → Bool) where
  -- positions x of link a and y of link b have the code x * (count of b) + y: their vertices are adjacent
  unfoldable pub is_pair : ℕ → ℕ → ℕ → Bool
  is_pair a b z = adj (first_of cs a + z / count_of cs b) (first_of cs b + z % count_of cs b)

  -- the pairs that join links a and b, rising by (first, second)
  unfoldable pub pairs_of : ℕ → ℕ → List ℕ
  pairs_of a b = select (count_of cs a * count_of cs b) (is_pair a b)

  -- "links joined by all pairs"
  unfoldable pub is_full : ℕ → ℕ → Bool
  is_full a b = eqb (length (pairs_of a b)) (count_of cs a * count_of cs b)

  -- links a < b with the code a * k + b that get a rule: "links joined by all pairs get no rule"
  unfoldable pub is_ruled : ℕ → Bool
  is_ruled z = ltb (z / length cs) (z % length cs) && not (is_full (z / length cs) (z % length cs))

  unfoldable pub ruled : List ℕ
  ruled = select (length cs * length cs) is_ruled

  -- the links of rule row j, and its pairs
  unfoldable pub ruled_a : ℕ → ℕ
  ruled_a j = get_or ruled j 0 / length cs

  unfoldable pub ruled_b : ℕ → ℕ
  ruled_b j = get_or ruled j 0 % length cs

  unfoldable pub rule_pairs : ℕ → List ℕ
  rule_pairs j = pairs_of (ruled_a j) (ruled_b j)

  unfoldable pub pairs_before : ℕ → ℕ
  pairs_before j = sum_to j (λ i. length (rule_pairs i))

  abbrev pub rule_total : ℕ
  rule_total = length ruled

  abbrev pub pair_total : ℕ
  pair_total = pairs_before rule_total

  -- "Links joined by some pairs get kind 3, .. links joined by none get kind 1 with value 9,999,999"
  unfoldable pub kind_of : ℕ → ℕ
  kind_of j = cond (eqb (length (rule_pairs j)) 0) 1 3

  unfoldable pub value_of : ℕ → ℕ
  value_of j = cond (eqb (length (rule_pairs j)) 0) most_khz (pairs_before j)

  -- the rows
  unfoldable pub rule_row : ℕ → List ℕ
  rule_row j = bytes16 (ruled_a j) ++ bytes16 (ruled_b j) ++ bytes16 (kind_of j) ++ bytes16 (length (rule_pairs j)) ++
      bytes32 (value_of j)

  unfoldable pub rule_pair_rows : ℕ → List ℕ
  rule_pair_rows j = for_each (pair_row (count_of cs (ruled_b j))) (rule_pairs j)

  unfoldable pub rule_rows : List ℕ
  rule_rows = join_to rule_total rule_row

  unfoldable pub pair_rows : List ℕ
  pair_rows = join_to rule_total rule_pair_rows

  unfoldable pub sheet_of : List ℕ
  sheet_of = header (length cs) (vertices_of cs) rule_total pair_total ++
      (link_rows cs ++ (freq_rows cs ++ (rule_rows ++ pair_rows)))
