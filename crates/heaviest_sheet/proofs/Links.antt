-- The links of the heaviest job, and which of its vertices are adjacent.
use mathlib.Core.Path.{◌≡◌, sym, ap, subst, ◌∙◌}
use mathlib.Core.Bool.{or-false}
use Prim.Native.Nat.{ℕ, zero, suc, ◌+◌, ◌-◌, ◌*◌, ◌/◌, ◌%◌, ◌≤◌, ◌<◌}
use native.Mathlib.Omega.{arith}
use native.Mathlib.Nat.{mod-lt, mul-le-mul_right}
use lib.Dec.{ltb}
use lib.ListN.{length}
use borrow.Author.Tests.{lt-ltb, le-ltb, ltb-true}
use Rattle.sets.specs.Below.{sum_to}
use Rattle.sets.proofs.Tests.{and_l}
use Rattle.sets.proofs.Lists.{length_tabulate, get_d_tabulate}
use Rattle.dimacs.specs.Reading.{count_of, first_of, vertices_of, layer_by}
use Rattle.dimacs.specs.Made.{joined}
use Rattle.dimacs.specs.RoundTrip.{HasGraph}
use Rattle.dimacs.proofs.Codes.{code_first, code_second, code_back, code_lt, first_lt}
use Rattle.dimacs.proofs.Accepts.{Small}
use Rattle.dimacs.proofs.Fields.{sections}
use Rattle.dimacs.proofs.Adjacent.{Joins, layer_has, has_graph}
use Rattle.dimacs.proofs.Sound.{Apart, joined_joins}
use Rattle.heaviest_sheet.specs.Written.{links, meets, is_edge, edges, graph, sheet}
use Rattle.heaviest_sheet.specs.Call.{SizesFit}

-- the link of a vertex, by where it starts
pub link_is : (m l v : ℕ) → l * m ≤ v → v < l * m + m → v / m ≡ l
link_is m l v h g =
    let e : v ≡ l * m + (v - l * m) = omega arith in
    ap (λ i. i / m) e ∙ code_first m l (v - l * m) (omega arith)

module _ (k m : ℕ) where
  pub links_length : length (links k m) ≡ k
  unfolding links
  links_length = length_tabulate k (λ l. m)

  pub links_count : (l : ℕ) → l < k → count_of (links k m) l ≡ m
  unfolding links
  links_count l h = get_d_tabulate k (λ l. m) l 0 h

  pub links_first : (l : ℕ) → l ≤ k → first_of (links k m) l ≡ l * m
  unfolding first_of sum_to
  links_first zero h = omega arith
  links_first (suc l) h = omega (arith, links_first l (omega arith), links_count l (omega arith))

  pub links_vertices : vertices_of (links k m) ≡ k * m
  links_vertices = ap (first_of (links k m)) links_length ∙ links_first k (omega arith)

  module _ (Z : SizesFit k m) where
    pub links_small : Small (links k m)
    links_small = record {
      links_some = omega (arith, links_length, Z.k_some);
      links_few = omega (arith, links_length, Z.k_few);
      freqs_few = omega (arith, links_vertices, Z.few);
      some = λ l h. omega (arith, links_count l (omega (arith, links_length)), Z.m_some);
    }

    pub links_layer : (v : ℕ) → v < k * m → layer_by (links k m) (length (links k m)) v ≡ v / m
    links_layer v h =
        let l = layer_by (links k m) (length (links k m)) v in
        let rows = (sections (links k m) (graph k m)).links in
        let i = layer_has (links k m) _ links_small rows v (omega (arith, links_vertices)) in
        let b : l < k = omega (arith, i.link, links_length) in
        let f = links_first l (omega arith) in
        let c = links_count l b in
        sym (link_is m l v (omega (arith, i.low)) (omega (arith, i.high)))

    -- an edge goes to a later link
    later_apart : (u v : ℕ) → v < k * m → u / m < v / m
        → layer_by (links k m) (length (links k m)) u ≡ layer_by (links k m) (length (links k m)) v → ⊥
    later_apart u v b up e =
        let w = code_lt k m (u / m) (u % m) (omega (arith, first_lt k m v b)) (mod-lt u Z.m_some) in
        let a : u < k * m = rw (code_back m u) at w in
        let q = sym (links_layer u a) ∙ e ∙ links_layer v b in
        omega arith

    edges_apart : Apart (links k m) (edges k m)
    unfolding edges is_edge
    edges_apart z t e =
        let n = k * m in
        let some : 0 < n = omega (arith, mul-le-mul_right m Z.k_some, Z.m_some) in
        let up = ltb-true (z / n / m) (z % n / m) (and_l (ltb (z / n / m) (z % n / m)) _ t) in
        later_apart (z / n) (z % n) (mod-lt z some) up (rw links_vertices at e)

    pub graph_joins : Joins (links k m) (graph k m)
    unfolding graph
    graph_joins = subst (λ n. Joins (links k m) (joined n (edges k m))) links_vertices
        (joined_joins (links k m) (edges k m) edges_apart)

    pub sheet_graph : HasGraph (sheet k m) (links k m) (graph k m)
    unfolding sheet
    sheet_graph = has_graph (links k m) (graph k m) links_small graph_joins

    -- vertices of two links, the earlier one first
    pub graph_is : (u v : ℕ) → u < k * m → v < k * m → u / m < v / m → graph k m u v ≡ meets k m u v
    unfolding graph joined edges is_edge
    graph_is u v a b h =
        let n = k * m in
        rw (
          lt-ltb u n a,
          lt-ltb v n b,
          code_first n u v b,
          code_second n u v b,
          code_first n v u a,
          code_second n v u a,
          lt-ltb (u / m) (v / m) h,
          le-ltb (v / m) (u / m) (omega arith),
        )
        (or-false (meets k m u v))
