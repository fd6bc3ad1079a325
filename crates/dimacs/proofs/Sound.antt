-- What texts that are read say: counts within the limits, and edges between different links.
use mathlib.Core.Path.{◌≡◌, refl, sym, ap, subst, ◌∙◌}
use mathlib.Core.Bool.{Bool, true, false, ◌&&◌, ◌||◌}
use mathlib.Core.Logic.{◌⊎◌, inl, inr}
use mathlib.Core.List.{List, [], ◌∷◌, ◌++◌}
use Prim.Native.Nat.{ℕ, zero, suc, ◌+◌, ◌*◌, ◌/◌, ◌%◌, ◌≤◌, ◌<◌}
use native.Mathlib.Omega.{arith}
use native.Mathlib.Numerals.{add-one}
use lib.Dec.{ltb, leb, eqb}
use lib.ListN.{length, length-append, get_or-append}
use lib.Seq.{get_or_at}
use borrow.Author.Tests.{eq-eqb, ltb-true, leb-true, eqb-true}
use Rattle.sets.specs.Below.{sum_to}
use Rattle.sets.specs.Sets.{Set, ◌∪◌, just, nothing}
use Rattle.sets.proofs.Tests.{case, clash, below, and_l, and_r, or_l, or_case}
use Rattle.sheet_rows.specs.Form.{hall_links, hall_freqs}
use Rattle.dimacs.specs.Reading.{Number, no_number, number, field, newline, space, is_empty, count_of, first_of}
use Rattle.dimacs.specs.Reading.{vertices_of, layer_by, count_fits, CountList, no_counts, counts, counts_from}
use Rattle.dimacs.specs.Reading.{Line, no_line, an_edge, is_vertex, edge_to, edge_from, edge_line, clashes, Edges}
use Rattle.dimacs.specs.Reading.{no_edges, edges, edges_from, of_lines, lines_from, head_from, edges_of, Texts}
use Rattle.dimacs.specs.Reading.{malformed, clashed, texts, texts_over, texts_by, texts_of}
use Rattle.dimacs.specs.Made.{joined}
use Rattle.dimacs.specs.Import.{text_graph}
use Rattle.dimacs.proofs.Choices.{number_case, line_case}
use Rattle.dimacs.proofs.Codes.{code_first, code_second}
use Rattle.dimacs.proofs.Accepts.{sum_same, Small}
use Rattle.dimacs.proofs.Adjacent.{Joins}

-- counts

-- counts so far: within the limits
pub record Few (cs : List ℕ) : Type 0 where
  pub links : length cs ≤ 64
  pub freqs : vertices_of cs ≤ 512
  pub some : (l : ℕ) → l < length cs → 0 < count_of cs l

pub vertices_more : (cs : List ℕ) (c : ℕ) → vertices_of (cs ++ (c ∷ [])) ≡ vertices_of cs + c
unfolding first_of sum_to
vertices_more cs c =
    let e : length (cs ++ (c ∷ [])) ≡ suc (length cs) = length-append cs (c ∷ []) ∙ add-one (length cs) in
    rw (e, get_or_at cs c [] 0 (length cs) refl)
    (ap (λ x. x + c)
    (sum_same (length cs) (count_of (cs ++ (c ∷ []))) (count_of cs) (λ i h. get_or-append cs (c ∷ []) 0 i h)))

few_more : (cs : List ℕ) (c : ℕ) → Few cs → count_fits cs c ≡ true → Few (cs ++ (c ∷ []))
unfolding count_fits
few_more cs c F t =
    let a = ltb-true (length cs) hall_links
    (and_l (ltb (length cs) hall_links) (ltb 0 c && leb (vertices_of cs + c) hall_freqs) t) in
    let r = and_r (ltb (length cs) hall_links) (ltb 0 c && leb (vertices_of cs + c) hall_freqs) t in
    let o = ltb-true 0 c (and_l (ltb 0 c) (leb (vertices_of cs + c) hall_freqs) r) in
    let n = leb-true (vertices_of cs + c) hall_freqs (and_r (ltb 0 c) (leb (vertices_of cs + c) hall_freqs) r) in
    let e = length-append cs (c ∷ []) in
    let v = vertices_more cs c in
    record {
      links = omega arith;
      freqs = omega arith;
      some = λ l h. below l (length cs) (omega arith)
          (λ b. rw (get_or-append cs (c ∷ []) 0 l b) (F.some l b))
          (λ q. rw (get_or_at cs c [] 0 l (sym q)) o);
    }

abbrev pub AllCounts : (List ℕ → Type 0) → CountList → Type 0
AllCounts P no_counts = Unit {0}
AllCounts P (counts cs) = P cs

pub counts_few : (turns : ℕ) (cs s : List ℕ) → Few cs → AllCounts Few (counts_from turns cs s)
unfolding counts_from
counts_few zero cs s F = tt
counts_few (suc turns) cs s F = case (AllCounts Few) (is_empty s) _ _ (λ e. F)
    (λ e. number_case (AllCounts Few) (field [] newline s) no_counts _ (λ _. tt)
    (λ c r q. case (AllCounts Few) (count_fits cs c) _ _ (λ t. counts_few turns (cs ++ (c ∷ [])) r (few_more cs c F t))
    (λ _. tt)))

pub none_few : Few []
unfolding first_of sum_to
none_few = record { links = omega arith; freqs = omega arith; some = λ l h. absurd (omega arith) }

-- edges

-- the edges so far join different links
abbrev pub Apart : List ℕ → Set → Type 0
Apart cs E = (z : ℕ) → E z ≡ true
    → layer_by cs (length cs) (z / vertices_of cs) ≡ layer_by cs (length cs) (z % vertices_of cs) → ⊥

abbrev pub AllLines : (ℕ → ℕ → Type 0) → Line → Type 0
AllLines P no_line = Unit {0}
AllLines P (an_edge u v r) = P u v

pub edge_within : (n : ℕ) (s : List ℕ) → AllLines (λ u v. (u < n) × (v < n)) (edge_line n s)
unfolding edge_line edge_from edge_to is_vertex
edge_within n s = from (field _ space s)
  where
    to : (u : ℕ) (w : Number) → AllLines (λ u v. (u < n) × (v < n)) (edge_to n u w)
    to u no_number = tt
    to u (number v r) = case (AllLines (λ u v. (u < n) × (v < n))) ((ltb 0 u && leb u n) && (ltb 0 v && leb v n)) _ _
        (λ t. let p = and_l (ltb 0 u && leb u n) (ltb 0 v && leb v n) t in let q =
        and_r (ltb 0 u && leb u n) (ltb 0 v && leb v n) t in
        let a = ltb-true 0 u (and_l (ltb 0 u) (leb u n) p) in let b = leb-true u n (and_r (ltb 0 u) (leb u n) p) in
        let c = ltb-true 0 v (and_l (ltb 0 v) (leb v n) q) in let d = leb-true v n (and_r (ltb 0 v) (leb v n) q) in
        (omega arith, omega arith))
        (λ _. tt)

    from : (w : Number) → AllLines (λ u v. (u < n) × (v < n)) (edge_from n w)
    from no_number = tt
    from (number u r) = to u (field [] newline r)

apart_more : (cs : List ℕ) (E : Set) (u v : ℕ) → v < vertices_of cs → Apart cs E → clashes cs E u v ≡ false
    → Apart cs (E ∪ just (u * vertices_of cs + v))
unfolding clashes ◌∪◌ just
apart_more cs E u v h A f z t q = go (or_case (E z) (eqb z (u * vertices_of cs + v)) t)
  where
    go : (E z ≡ true) ⊎ (eqb z (u * vertices_of cs + v) ≡ true) → ⊥
    go (inl e) = A z e q
    go (inr e) =
        let p = eqb-true _ _ e in
        let a : z / vertices_of cs ≡ u = ap (λ x. x / vertices_of cs) p ∙ code_first (vertices_of cs) u v h in
        let b : z % vertices_of cs ≡ v = ap (λ x. x % vertices_of cs) p ∙ code_second (vertices_of cs) u v h in
        clash (clashes cs E u v) (or_l _ (eq-eqb _ _ (rw (a, b) at q))) f

abbrev AllEdges : (ℕ → Set → Bool → Type 0) → Edges → Type 0
AllEdges P no_edges = Unit {0}
AllEdges P (edges m E x) = P m E x

abbrev Holds : List ℕ → ℕ → Set → Bool → Type 0
Holds cs m E x = x ≡ false → Apart cs E

or_false_l : (a b : Bool) → (a || b) ≡ false → a ≡ false
or_false_l true b e = e
or_false_l false b e = refl

or_false_r : (a b : Bool) → (a || b) ≡ false → b ≡ false
or_false_r true b e = clash true refl e
or_false_r false b e = e

edges_sound : (cs : List ℕ) (turns m : ℕ) (E : Set) (x : Bool) (s : List ℕ) → Holds cs m E x
    → AllEdges (Holds cs) (edges_from cs turns m E x s)
unfolding edges_from
edges_sound cs zero m E x s A = tt
edges_sound cs (suc turns) m E x s A = case (AllEdges (Holds cs)) (is_empty s) _ _ (λ e. A)
    (λ e. line_case (AllEdges (Holds cs)) (edge_line (vertices_of cs) s) no_edges _ (λ _. tt)
    (λ u v r q. edges_sound cs turns (m + 1) (E ∪ just (u * vertices_of cs + v)) (x || clashes cs E u v) r
    (λ f. let w = subst (AllLines (λ u v. (u < vertices_of cs) × (v < vertices_of cs))) q (edge_within (vertices_of cs) s)
    in
    apart_more cs E u v w.1 (A (or_false_l x _ f)) (or_false_r x _ f))))

edges_all : (cs text : List ℕ) → AllEdges (Holds cs) (edges_of cs text)
unfolding edges_of head_from lines_from of_lines nothing
edges_all cs text = from (field _ space text)
  where
    of : (m : ℕ) (w : Edges) → AllEdges (Holds cs) w → AllEdges (Holds cs) (of_lines m w)
    of m no_edges a = tt
    of m (edges l E x) a = case (AllEdges (Holds cs)) (eqb l m) _ _ (λ _. a) (λ _. tt)

    lines : (w : Number) → AllEdges (Holds cs) (lines_from cs w)
    lines no_number = tt
    lines (number m r) = of m (edges_from cs (length r + 1) 0 nothing false r)
        (edges_sound cs (length r + 1) 0 nothing false r (λ _ z t q. clash false t refl))

    from : (w : Number) → AllEdges (Holds cs) (head_from cs w)
    from no_number = tt
    from (number n r) = case (AllEdges (Holds cs)) (eqb n (vertices_of cs)) _ _ (λ _. lines (field [] newline r))
        (λ _. tt)

-- both texts

-- what is read is a graph of small counts
pub record IsGraph (cs : List ℕ) (E : Set) : Type 0 where
  pub small : Small cs
  pub apart : Apart cs E

abbrev pub AllTexts : (List ℕ → Set → Type 0) → Texts → Type 0
AllTexts P malformed = Unit {0}
AllTexts P clashed = Unit {0}
AllTexts P (texts cs E) = P cs E

pub texts_graph : (text countsText : List ℕ) → AllTexts IsGraph (texts_of text countsText)
unfolding texts_of texts_by texts_over
texts_graph text countsText = by (counts_from (length countsText + 1) [] countsText)
    (counts_few (length countsText + 1) [] countsText none_few)
  where
    over : (cs : List ℕ) (w : Edges) → Small cs → AllEdges (Holds cs) w → AllTexts IsGraph (texts_over cs w)
    over cs no_edges S a = tt
    over cs (edges m E x) S a = case (AllTexts IsGraph) x _ _ (λ _. tt) (λ e. record { small = S; apart = a e })

    by : (w : CountList) → AllCounts Few w → AllTexts IsGraph (texts_by text w)
    by no_counts F = tt
    by (counts cs) F = case (AllTexts IsGraph) (ltb 0 (length cs)) _ _
        (λ t. over cs (edges_of cs text)
        (record { links_some = ltb-true _ _ t; links_few = F.links; freqs_few = F.freqs; some = F.some })
        (edges_all cs text))
        (λ _. tt)

-- the adjacency that codes say goes both ways, among the vertices, and never inside a link
pub joined_joins : (cs : List ℕ) (E : Set) → Apart cs E → Joins cs (text_graph cs E)
unfolding joined
joined_joins cs E A =
    let n = vertices_of cs in
    record {
      sy = λ u v. both_turned (ltb u n) (ltb v n) (E (u * n + v)) (E (v * n + u));
      left = λ u v t. ltb-true _ _ (and_l (ltb u n) _ (and_l (ltb u n && ltb v n) _ t));
      right = λ u v t. ltb-true _ _ (and_r (ltb u n) _ (and_l (ltb u n && ltb v n) _ t));
      apart = λ u v t q.
          let a = ltb-true _ _ (and_l (ltb u n) _ (and_l (ltb u n && ltb v n) _ t)) in
          let b = ltb-true _ _ (and_r (ltb u n) _ (and_l (ltb u n && ltb v n) _ t)) in
          split u v a b q (or_case (E (u * n + v)) (E (v * n + u)) (and_r (ltb u n && ltb v n) _ t));
    }
  where
    both_turned : (a b c d : Bool) → ((a && b) && (c || d)) ≡ ((b && a) && (d || c))
    both_turned true true true true = refl
    both_turned true true true false = refl
    both_turned true true false true = refl
    both_turned true true false false = refl
    both_turned true false c d = refl
    both_turned false true c d = refl
    both_turned false false c d = refl

    one_way : (u v : ℕ) → v < vertices_of cs → E (u * vertices_of cs + v) ≡ true
        → layer_by cs (length cs) u ≡ layer_by cs (length cs) v → ⊥
    one_way u v b e q =
        A (u * vertices_of cs + v) e (rw (code_first (vertices_of cs) u v b, code_second (vertices_of cs) u v b) q)

    split : (u v : ℕ) → u < vertices_of cs → v < vertices_of cs → layer_by cs (length cs) u ≡ layer_by cs (length cs) v
        → (E (u * vertices_of cs + v) ≡ true) ⊎ (E (v * vertices_of cs + u) ≡ true) → ⊥
    split u v a b q (inl e) = one_way u v b e q
    split u v a b q (inr e) = one_way v u a e (sym q)
