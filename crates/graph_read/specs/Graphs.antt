-- What the readers hand back of the graph text, and of both texts.
use Rattle.std.specs.Prelude.{◌≡◌, Bool, true, Option, Some, None, Result, Ok, Err, List, ℕ, ◌+◌, ◌≤◌, ◌<◌, length, take, drop}
use Rattle.sets.specs.Below.{tabulate}
use Rattle.sets.specs.Sets.{Set}
use Rattle.vset.specs.Words.{has}
use Rattle.dimacs.specs.Reading.{first_of, vertices_of, layer_by, is_vertex, Line, no_line, an_edge}
use Rattle.dimacs.specs.Reading.{Edges, no_edges, edges, of_lines, Texts, malformed, clashed, texts, texts_over}
use Rattle.graph_read.specs.Read.{most_value, capped}
use Rattle.graph_read.specs.declared.GraphSizes.{GraphSizes}
use Rattle.graph_read.specs.declared.TextsRefusal.{TextsRefusal}
use Rattle.graph_read.specs.declared.TextsRefusal.TheVariants.{Malformed, Clashing}
use Rattle.graph_read.specs.declared.edges.Edge.{Edge}
use Rattle.graph_read.specs.declared.edges.EdgeLines.{EdgeLines}

-- the first k of the words are the counts of k links, within the limits
pub record Links (counts : List ℕ) (k : ℕ) : Type 0 where
  pub some : 0 < k
  pub links : k ≤ 64
  pub room : k ≤ length counts
  pub few : first_of (take k counts) k ≤ 512

-- the codes of the edges of n vertices lie in `len` words
pub record CodesFit (n len : ℕ) : Type 0 where
  pub few : n ≤ 512
  pub room : len ≡ 4096

-- the same, and the table of the links of the vertices has 512 places
pub record EdgesFit (n table len : ℕ) : Type 0 where
  pub few : n ≤ 512
  pub places : table ≡ 512
  pub room : len ≡ 4096

-- the counts cs have n vertices, and the table has the link of each
pub record LayersTold (cs : List ℕ) (n : ℕ) (layers : List ℕ) : Type 0 where
  pub vertices : n ≡ vertices_of cs
  pub are : layers ≡ tabulate 512 (layer_by cs (length cs))

-- r says whether a number is a vertex, where the code has `value` for it
pub record IsVertex (n value : ℕ) (r : Bool) : Type 0 where
  pub answer : (v : ℕ) → value ≡ capped v → r ≡ is_vertex n v
  pub small : r ≡ true → (0 < value) × (value ≤ n)

-- an edge that was read
abbrev pub edge_at : ℕ → ℕ → ℕ → Option Edge
edge_at u v next = Some (record { u = u; v = v; next = next })

-- r is the edge of u and v, with the rest s of the text after its line
pub record EdgeFound (text : List ℕ) (at n u v : ℕ) (s : List ℕ) (r : Option Edge) : Type 0 where
  pub next : ℕ
  pub is : r ≡ edge_at u v next
  pub later : at + 2 ≤ next
  pub within : next ≤ length text
  pub rest : s ≡ drop next text
  pub first : u < n
  pub second : v < n

-- r tells the `e` line that was read
abbrev pub LineTold : List ℕ → ℕ → ℕ → Line → Option Edge → Type 0
LineTold text at n no_line r = r ≡ None
LineTold text at n (an_edge u v s) r = EdgeFound text at n u v s r

-- the `e` lines that were read
abbrev pub lines_are : ℕ → Bool → Option EdgeLines
lines_are count clash = Some (record { count = count; clash = clash })

-- r tells the edges that were read, whose codes are those in the words
abbrev pub EdgesTold : Edges → List ℕ → Option EdgeLines → Type 0
EdgesTold no_edges codes r = r ≡ None
EdgesTold (edges m E x) codes r = (r ≡ lines_are m x) × (has codes ≡ E) × (m < most_value)

-- r tells the edges where there are as many as a number says, which the code has `value` for
pub record OfLines (value : ℕ) (e r : Option EdgeLines) : Type 0 where
  pub answer : (m : ℕ) (w : Edges) (codes : List ℕ) → value ≡ capped m → EdgesTold w codes e
      → EdgesTold (of_lines m w) codes r

-- a graph that was read
abbrev pub graph_of : ℕ → ℕ → Result GraphSizes TextsRefusal
graph_of links vertices = Ok (record { links = links; vertices = vertices })

-- the words have the counts and the codes of a graph
pub record GraphRead (cs : List ℕ) (E : Set) (counts codes : List ℕ) (r : Result GraphSizes TextsRefusal) : Type 0 where
  pub is : r ≡ graph_of (length cs) (vertices_of cs)
  pub links : Links counts (length cs)
  pub are : take (length cs) counts ≡ cs
  pub edges : has codes ≡ E

-- r tells both texts
abbrev pub TextsTold : Texts → List ℕ → List ℕ → Result GraphSizes TextsRefusal → Type 0
TextsTold malformed counts codes r = r ≡ Err Malformed
TextsTold clashed counts codes r = r ≡ Err Clashing
TextsTold (texts cs E) counts codes r = GraphRead cs E counts codes r

-- r tells the texts whose edges e tells, after the counts in the words
pub record TextsOf (k n : ℕ) (e : Option EdgeLines) (r : Result GraphSizes TextsRefusal) : Type 0 where
  pub answer : (w : Edges) (counts codes : List ℕ) → Links counts k → n ≡ vertices_of (take k counts)
      → EdgesTold w codes e → TextsTold (texts_over (take k counts) w) counts codes r
