-- Reading the two texts. A reader takes the bytes that are left and says what stands at their front and what is left
-- after it.
use Rattle.std.specs.Prelude.{Bool, true, false, cond, ◌&&◌, ◌||◌, List, [], ◌∷◌, ◌++◌, ℕ, zero, suc, ◌+◌, ◌-◌, ◌*◌, ltb, leb, eqb, length, get_or}
use Rattle.sets.specs.Below.{sum_to}
use Rattle.sets.specs.Sets.{Set, ◌∪◌, just, nothing}
use Rattle.sheet_rows.specs.Form.{hall_links, hall_freqs}
use Rattle.lines.specs.Lines.{ascii}

-- a number and the bytes after it, or none
pub data Number : Type 0 where
  no_number : Number
  number : ℕ → List ℕ → Number

unfoldable pub is_digit : ℕ → Bool
is_digit b = leb 48 b && leb b 57

-- the digits at the front, after digits of value v
unfoldable pub digits_from : ℕ → List ℕ → Number
digits_from v [] = number v []
digits_from v (b ∷ s) = elim (is_digit b) [ true ↦ digits_from (10 * v + (b - 48)) s | false ↦ number v (b ∷ s) ]

-- "decimals without leading zeros": 0, after which no digit can stand, or digits of which the first is another
unfoldable pub read_number : List ℕ → Number
read_number [] = no_number
read_number (b ∷ s) =
    elim (eqb b 48) [ true ↦ number 0 s | false ↦ elim (is_digit b) [ true ↦ digits_from 0 (b ∷ s) | false ↦ no_number ] ]

-- the byte that has to follow a number
unfoldable pub ended_by : ℕ → Number → Number
ended_by end no_number = no_number
ended_by end (number v []) = no_number
ended_by end (number v (b ∷ s)) = elim (eqb b end) [ true ↦ number v s | false ↦ no_number ]

-- a word, a number right after it, and the byte that ends it
unfoldable pub field : List ℕ → ℕ → List ℕ → Number
field [] end s = ended_by end (read_number s)
field (w ∷ ws) end [] = no_number
field (w ∷ ws) end (b ∷ s) = elim (eqb b w) [ true ↦ field ws end s | false ↦ no_number ]

abbrev pub is_empty : List ℕ → Bool
is_empty [] = true
is_empty (b ∷ s) = false

abbrev pub space : ℕ
space = 32

abbrev pub newline : ℕ
newline = 10

-- the count text

abbrev pub count_of : List ℕ → ℕ → ℕ
count_of cs l = get_or cs l 0

-- the first vertex of link l, and with l = k the number of vertices
unfoldable pub first_of : List ℕ → ℕ → ℕ
first_of cs l = sum_to l (count_of cs)

abbrev pub vertices_of : List ℕ → ℕ
vertices_of cs = first_of cs (length cs)

-- the link of a vertex: the last of m links that starts at or below it
unfoldable pub layer_by : List ℕ → ℕ → ℕ → ℕ
layer_by cs zero v = 0
layer_by cs (suc m) v = cond (leb (first_of cs m) v) m (layer_by cs m v)

-- "each 1 or more", within "form 1's 1 to 64 links and 1 to 512 frequencies": the counts cs may be followed by c
unfoldable pub count_fits : List ℕ → ℕ → Bool
count_fits cs c = ltb (length cs) hall_links && (ltb 0 c && leb (vertices_of cs + c) hall_freqs)

pub data CountList : Type 0 where
  no_counts : CountList
  counts : List ℕ → CountList

-- the counts, one a line to the end, after cs. A line takes a byte at least, so that as many turns as bytes, and one,
-- are enough
unfoldable pub counts_from : ℕ → List ℕ → List ℕ → CountList
counts_from zero cs s = no_counts
counts_from (suc turns) cs s = elim (is_empty s) [
  | true ↦ counts cs
  | false ↦ elim (field [] newline s) [
    | no_number ↦ no_counts
    | number c r ↦ elim (count_fits cs c) [ true ↦ counts_from turns (cs ++ (c ∷ [])) r | false ↦ no_counts ]
  ]
]

-- the graph text

-- an edge, by its vertices from 0, and the bytes after its line
pub data Line : Type 0 where
  no_line : Line
  an_edge : ℕ → ℕ → List ℕ → Line

-- "vertices 1 to n"
unfoldable pub is_vertex : ℕ → ℕ → Bool
is_vertex n u = ltb 0 u && leb u n

unfoldable pub edge_to : ℕ → ℕ → Number → Line
edge_to n u no_number = no_line
edge_to n u (number v r) = elim (is_vertex n u && is_vertex n v) [ true ↦ an_edge (u - 1) (v - 1) r | false ↦ no_line ]

unfoldable pub edge_from : ℕ → Number → Line
edge_from n no_number = no_line
edge_from n (number u r) = edge_to n u (field [] newline r)

-- `e u v`
unfoldable pub edge_line : ℕ → List ℕ → Line
edge_line n s = edge_from n (field (ascii "e ") space s)

-- an edge that 14 names: "inside a link or repeated either way", after the edges with the codes E
unfoldable pub clashes : List ℕ → Set → ℕ → ℕ → Bool
clashes cs E u v =
    eqb (layer_by cs (length cs) u) (layer_by cs (length cs) v)
    || (E (u * vertices_of cs + v) || E (v * vertices_of cs + u))

-- the lines read: how many, the codes of their edges, and whether 14 names one
pub data Edges : Type 0 where
  no_edges : Edges
  edges : ℕ → Set → Bool → Edges

-- the `e` lines to the end, after m of them
unfoldable pub edges_from : List ℕ → ℕ → ℕ → Set → Bool → List ℕ → Edges
edges_from cs zero m E x s = no_edges
edges_from cs (suc turns) m E x s = elim (is_empty s) [
  | true ↦ edges m E x
  | false ↦ elim (edge_line (vertices_of cs) s) [
    | no_line ↦ no_edges
    | an_edge u v r ↦ edges_from cs turns (m + 1) (E ∪ just (u * vertices_of cs + v)) (x || clashes cs E u v) r
  ]
]

-- "m the number of `e` lines"
unfoldable pub of_lines : ℕ → Edges → Edges
of_lines m no_edges = no_edges
of_lines m (edges l E x) = elim (eqb l m) [ true ↦ edges l E x | false ↦ no_edges ]

unfoldable pub lines_from : List ℕ → Number → Edges
lines_from cs no_number = no_edges
lines_from cs (number m r) = of_lines m (edges_from cs (length r + 1) 0 nothing false r)

-- "n is the sum of the counts"
unfoldable pub head_from : List ℕ → Number → Edges
head_from cs no_number = no_edges
head_from cs (number n r) = elim (eqb n (vertices_of cs)) [ true ↦ lines_from cs (field [] newline r) | false ↦ no_edges ]

-- `p edge n m`, then the `e` lines
unfoldable pub edges_of : List ℕ → List ℕ → Edges
edges_of cs text = head_from cs (field (ascii "p edge ") space text)

-- both texts: not read (13), an edge that 14 names, or the counts and the codes of the edges
pub data Texts : Type 0 where
  malformed : Texts
  clashed : Texts
  texts : List ℕ → Set → Texts

unfoldable pub texts_over : List ℕ → Edges → Texts
texts_over cs no_edges = malformed
texts_over cs (edges m E x) = elim x [ true ↦ clashed | false ↦ texts cs E ]

unfoldable pub texts_by : List ℕ → CountList → Texts
texts_by text no_counts = malformed
texts_by text (counts cs) = elim (ltb 0 (length cs)) [ true ↦ texts_over cs (edges_of cs text) | false ↦ malformed ]

-- a graph text and a count text
unfoldable pub texts_of : List ℕ → List ℕ → Texts
texts_of text countsText = texts_by text (counts_from (length countsText + 1) [] countsText)
