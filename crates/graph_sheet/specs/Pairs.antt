-- The graph in the words that import keeps, and what is counted of it.
use Rattle.std.specs.Prelude.{◌≡◌, Bool, true, false, Option, is_some, unwrap_or, List, ℕ, ◌+◌, ◌*◌, ◌/◌, ◌%◌, ◌≤◌, ◌<◌, length, take, get_or}
use Rattle.vset.specs.Words.{has}
use Rattle.dimacs.specs.Lists.{select}
use Rattle.dimacs.specs.Reading.{count_of, first_of}
use Rattle.dimacs.specs.Made.{joined, pairs_of, is_ruled, rule_total, pair_total}
use Rattle.graph_read.specs.Graphs.{Links}
use Rattle.graph_read.specs.declared.GraphSizes.{GraphSizes}
use Rattle.graph_sheet.specs.declared.joins.Totals.{Totals}
use Rattle.graph_sheet.specs.declared.joins.Two.{Two}

-- the counts of the links, and the adjacency of the vertices
abbrev pub counts_in : List ℕ → GraphSizes → List ℕ
counts_in counts s = take s.links counts

abbrev pub adjacent_in : List ℕ → GraphSizes → ℕ → ℕ → Bool
adjacent_in codes s = joined s.vertices (has codes)

-- the counts of links and their vertices, and room for the codes of the edges
pub record GraphIn (counts : List ℕ) (s : GraphSizes) (len : ℕ) : Type 0 where
  pub links : Links counts s.links
  pub vertices : s.vertices ≡ first_of (counts_in counts s) s.links
  pub room : len ≡ 4096

-- the first vertices of the links below m
pub record FirstsTo (cs firsts : List ℕ) (m : ℕ) : Type 0 where
  pub room : m ≤ length firsts
  pub are : (l : ℕ) → l < m → get_or firsts l 0 ≡ first_of cs l

-- the graph, with the first vertices of its links
pub record GraphLaid (counts firsts : List ℕ) (s : GraphSizes) (len : ℕ) : Type 0 where
  pub graph : GraphIn counts s len
  pub starts : FirstsTo (counts_in counts s) firsts s.links

-- p is links a and b
pub record TwoOf (cs : List ℕ) (a b : ℕ) (p : Two) : Type 0 where
  pub first : p.first ≡ first_of cs a
  pub count : p.count ≡ count_of cs a
  pub second : p.second ≡ first_of cs b
  pub width : p.width ≡ count_of cs b

-- the vertices of two links are below n
pub record Among (n : ℕ) (p : Two) : Type 0 where
  pub few : n ≤ 512
  pub first : p.first + p.count ≤ n
  pub second : p.second + p.width ≤ n

-- whether position x of the first link and y of the second are adjacent
unfoldable pub joined_in : (ℕ → ℕ → Bool) → Two → ℕ → ℕ → Bool
joined_in adj p x y = adj (p.first + x) (p.second + y)

-- `is_pair` and `pairs_of` of two links
unfoldable pub joined_at : (ℕ → ℕ → Bool) → Two → ℕ → Bool
joined_at adj p z = adj (p.first + z / p.width) (p.second + z % p.width)

unfoldable pub pairs_in : (ℕ → ℕ → Bool) → Two → List ℕ
pairs_in adj p = select (p.count * p.width) (joined_at adj p)

-- r is the number of pairs that join two links
pub record PairCount (adj : ℕ → ℕ → Bool) (p : Two) (r : ℕ) : Type 0 where
  pub few : r ≤ 262144
  pub is : r ≡ length (pairs_in adj p)

-- r says whether the links with the code z get a rule, and then how many pairs join them
pub record RuleTold (cs : List ℕ) (adj : ℕ → ℕ → Bool) (z : ℕ) (r : Option ℕ) : Type 0 where
  pub ruled : is_some r ≡ is_ruled cs adj z
  pub pairs : is_some r ≡ true → unwrap_or r 0 ≡ length (pairs_of cs adj (z / length cs) (z % length cs))
  pub few : unwrap_or r 0 ≤ 262144

-- u is the totals t with the rule r, if it is one
pub record Tallied (t : Totals) (r : Option ℕ) (u : Totals) : Type 0 where
  pub yes : is_some r ≡ true → (u.rules ≡ t.rules + 1) × (u.pairs ≡ t.pairs + unwrap_or r 0)
  pub no : is_some r ≡ false → (u.rules ≡ t.rules) × (u.pairs ≡ t.pairs)

-- t is all rules, and all pairs
pub record TotalsOf (cs : List ℕ) (adj : ℕ → ℕ → Bool) (t : Totals) : Type 0 where
  pub rules : t.rules ≡ rule_total cs adj
  pub pairs : t.pairs ≡ pair_total cs adj
  pub rules_few : t.rules ≤ 4096
  pub pairs_few : t.pairs ≤ 1073741824
