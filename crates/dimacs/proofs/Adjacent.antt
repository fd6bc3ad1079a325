-- The graph of the sheet that is made is the graph it is made of.
use mathlib.Core.Path.{◌≡◌, refl, sym, ap, ◌∙◌, fun_ext}
use mathlib.Core.Bool.{Bool, true, false}
use mathlib.Core.List.{List, ◌++◌}
use Prim.Native.Nat.{ℕ, zero, suc, ◌+◌, ◌-◌, ◌*◌, ◌/◌, ◌%◌, ◌≤◌, ◌<◌}
use native.Mathlib.Omega.{arith}
use lib.Dec.{ltb, eqb}
use lib.ListN.{length, get_or}
use borrow.Author.Tests.{lt-ltb, eq-eqb, ne_eqb, ltb-true, ltb-false, eqb-true, eqb-false}
use Rattle.sets.specs.Below.{any, first, count}
use Rattle.sets.proofs.Tests.{bool, clash, is_false, iff, and_l, and_r, and_in, not_in}
use Rattle.sets.proofs.Below.{any_in, first_lt, first_is, sum_in, count_le, count_less}
use Rattle.sheet_rows.specs.Rows.{link_first, pair_first}
use Rattle.rule_sections.specs.Rules.{most_khz}
use Rattle.pair_test.specs.Layers.{layer_of, InLink}
use Rattle.spacing.specs.Spacing.{distance, zero_or_more, spare_by}
use Rattle.pair_test.specs.Pairs.{same_pair, lists_pair, of_links, spare_free, spare_row}
use Rattle.pair_test.specs.Pairs.{spare}
use Rattle.pair_test.proofs.Laws.{layer_in}
use Rattle.spacing.proofs.Spacing.{near_barred, three_allowed}
use Rattle.pair_test.proofs.Pairing.{free_allowed, of_in, of_out, spare_when}
use Rattle.graph.specs.Graph.{links_differ, adjacent}
use Rattle.graph.proofs.Graph.{adjacent_out, adjacent_sym}
use Rattle.dimacs.specs.Reading.{count_of, first_of, vertices_of, layer_by}
use Rattle.dimacs.specs.Made.{freq_rows, is_pair, pairs_of, is_full, is_ruled, ruled, rule_pairs, ruled_a}
use Rattle.dimacs.specs.Made.{ruled_b, kind_of, value_of, pairs_before, rule_total, rule_rows, pair_rows, sheet_of}
use Rattle.dimacs.specs.RoundTrip.{HasGraph}
use Rattle.dimacs.proofs.Lists.{count_pass, select_length, select_has}
use Rattle.dimacs.proofs.Codes.{code_first, code_second, code_lt}
use Rattle.dimacs.proofs.Fields.{Counted, freq_field, a_field, b_field, kind_field, pairs_field}
use Rattle.dimacs.proofs.Fields.{value_field, first_position, second_position, sections}
use Rattle.dimacs.proofs.Accepts.{Small, links_ok_lem, ruled_is, pair_at_lem, value_is}

-- an adjacency of the vertices of counts: both ways, among the vertices, never inside a link
pub record Joins (cs : List ℕ) (adj : ℕ → ℕ → Bool) : Type 0 where
  pub sy : (u v : ℕ) → adj u v ≡ adj v u
  pub left : (u v : ℕ) → adj u v ≡ true → u < vertices_of cs
  pub right : (u v : ℕ) → adj u v ≡ true → v < vertices_of cs
  pub apart : (u v : ℕ) → adj u v ≡ true → layer_by cs (length cs) u ≡ layer_by cs (length cs) v → ⊥

-- all numbers below m pass
count_full : (m : ℕ) (p : ℕ → Bool) → count m p ≡ m → (i : ℕ) → i < m → p i ≡ true
count_full m p e i h =
    bool (p i) (λ t. t)
    (λ f. let a = count_less m p (λ _. true) (λ _ _ _. refl) i h f refl in let b = count_le m (λ _. true) in
    absurd (omega arith))

any_out : (m : ℕ) (p : ℕ → Bool) → any m p ≡ true → (i : ℕ) × (i < m) × (p i ≡ true)
any_out m p h = (first m p, first_lt m p h, first_is m p h)

-- two different numbers, by which is lower
pub either {ℓ} : {A : Type ℓ} (a b : ℕ) → (a ≡ b → ⊥) → (a < b → A) → (b < a → A) → A
either a b ne f g = bool (ltb a b) (λ e. f (ltb-true a b e)) (λ e. g (lower (ltb-false a b e)))
  where
    lower : b ≤ a → b < a
    lower h = omega (arith, ne)

-- adjacency by equal sections and counts
parts_same : (s : List ℕ) {b b' c c' d d' : List ℕ} {k k' n n' q q' : ℕ} → b ≡ b' → c ≡ c' → d ≡ d' → k ≡ k'
    → n ≡ n' → q ≡ q' → ◌≡◌ {A = ℕ → ℕ → Bool} (λ u v. adjacent s b c d k n q u v) (adjacent s b' c' d' k' n' q')
parts_same s f g h i j l = rw (f, g, h, i, j, l)

-- layers

pub layer_same : (s cs : List ℕ) (m : ℕ) → ((l : ℕ) → l < m → link_first s l ≡ first_of cs l) → (v : ℕ)
    → layer_of s m v ≡ layer_by cs m v
unfolding layer_of layer_by
layer_same s cs zero h v = refl
layer_same s cs (suc m) h v = rw (h m (omega arith), layer_same s cs m (λ l b. h l (omega arith)) v)

-- v is a vertex of link l
pub record In (cs : List ℕ) (l v : ℕ) : Type 0 where
  pub link : l < length cs
  pub low : first_of cs l ≤ v
  pub high : v < first_of cs l + count_of cs l

module _ (cs s : List ℕ) (S : Small cs) (L : Counted cs s) where
  pub layer_rows : (v : ℕ) → layer_of s (length cs) v ≡ layer_by cs (length cs) v
  layer_rows v = layer_same s cs (length cs) L.first v

  pub layer_has : (v : ℕ) → v < vertices_of cs → In cs (layer_by cs (length cs) v) v
  layer_has v h =
      let r = layer_in s (length cs) (vertices_of cs) (links_ok_lem cs s S L) v h in
      let e = layer_rows v in
      let l : layer_by cs (length cs) v < length cs = rw e at r.0 in
      let i : InLink s (layer_by cs (length cs) v) v = rw e at r.1 in
      let f = L.first (layer_by cs (length cs) v) l in
      let c = L.count (layer_by cs (length cs) v) l in
      record { link = l; low = omega (arith, i.low); high = omega (arith, i.high) }

link_within : (cs : List ℕ) (l : ℕ) → l < length cs → first_of cs l + count_of cs l ≤ vertices_of cs
unfolding first_of
link_within cs l h = sum_in (length cs) l (count_of cs) h

module _ (cs : List ℕ) (adj : ℕ → ℕ → Bool) (S : Small cs) where
  rule_test : (a b : ℕ) → a < b → b < length cs → is_full cs adj a b ≡ false → is_ruled cs adj (a * length cs + b) ≡ true
  unfolding is_ruled
  rule_test a b l h e = rw (code_first (length cs) a b h, code_second (length cs) a b h)
      (and_in (lt-ltb _ _ l) (not_in e))

  -- vertices u of link a and v of link b: their code, where adjacency is tested
  module _ (a b u v : ℕ) (x : In cs a u) (y : In cs b v) where
    abbrev code : ℕ
    code = (u - first_of cs a) * count_of cs b + (v - first_of cs b)

    place_b : v - first_of cs b < count_of cs b
    place_b = omega (arith, y.low, y.high)

    code_below : code < count_of cs a * count_of cs b
    code_below = code_lt (count_of cs a) (count_of cs b) (u - first_of cs a) (v - first_of cs b)
        (omega (arith, x.low, x.high)) place_b

    back_a : first_of cs a + (u - first_of cs a) ≡ u
    back_a = omega (arith, x.low)

    back_b : first_of cs b + (v - first_of cs b) ≡ v
    back_b = omega (arith, y.low)

    code_test : is_pair cs adj a b code ≡ adj u v
    unfolding is_pair
    code_test = rw (
      code_first (count_of cs b) (u - first_of cs a) (v - first_of cs b) place_b,
      code_second (count_of cs b) (u - first_of cs a) (v - first_of cs b) place_b,
      back_a,
      back_b,
    )

    -- links joined by all pairs
    pub full_joins : is_full cs adj a b ≡ true → adj u v ≡ true
    unfolding is_full pairs_of
    full_joins e = sym code_test
        ∙ count_full (count_of cs a * count_of cs b) (is_pair cs adj a b) (sym (select_length _ _) ∙ eqb-true _ _ e) code
        code_below

    -- an adjacent pair has its place in the list
    listed_at : adj u v ≡ true
        → (count code (is_pair cs adj a b) < length (pairs_of cs adj a b)) ×
        (get_or (pairs_of cs adj a b) (count code (is_pair cs adj a b)) 0 ≡ code)
    unfolding pairs_of
    listed_at t = (
      rw select_length (count_pass code _ (is_pair cs adj a b) code_below (code_test ∙ t)),
      select_has _ (is_pair cs adj a b) code code_below (code_test ∙ t),
    )

  -- what rule row j says of a vertex of its link a and a vertex of its link b
  module _ (s also rest : List ℕ) (L : Counted cs s) (j u v : ℕ) (h : j < rule_total cs adj)
      (x : In cs (ruled_a cs adj j) u) (y : In cs (ruled_b cs adj j) v) where
    abbrev a : ℕ
    a = ruled_a cs adj j

    abbrev b : ℕ
    b = ruled_b cs adj j

    lists : any (length (rule_pairs cs adj j))
        (λ i. same_pair (pair_rows cs adj) (u - first_of cs a) (v - first_of cs b) (pairs_before cs adj j + i)) ≡ adj u v
    unfolding same_pair is_pair rule_pairs
    lists = iff _ _ there back
      where
        there : any (length (rule_pairs cs adj j))
            (λ i. same_pair (pair_rows cs adj) (u - first_of cs a) (v - first_of cs b) (pairs_before cs adj j + i)) ≡ true
            → adj u v ≡ true
        there t =
            let w = any_out _ _ t in
            let i = w.0 in
            let g = w.1 in
            let p = eqb-true _ _
            (and_l (eqb (pair_first (pair_rows cs adj) (pairs_before cs adj j + i)) (u - first_of cs a)) _ w.2) in
            let q = eqb-true _ _
            (and_r (eqb (pair_first (pair_rows cs adj) (pairs_before cs adj j + i)) (u - first_of cs a)) _ w.2) in
            let z = get_or (rule_pairs cs adj j) i 0 in
            let p' : z / count_of cs b ≡ u - first_of cs a = sym (first_position cs adj j i h g) ∙ p in
            let q' : z % count_of cs b ≡ v - first_of cs b = sym (second_position cs adj j i h g) ∙ q in
            let s = (pair_at_lem cs adj S j i g).test in
            rw (p', q', back_a a b u v x y, back_b a b u v x y) at s

        back : adj u v ≡ true
            → any (length (rule_pairs cs adj j))
            (λ i. same_pair (pair_rows cs adj) (u - first_of cs a) (v - first_of cs b) (pairs_before cs adj j + i)) ≡ true
        back t =
            let w = listed_at a b u v x y t in
            let i = count (code a b u v x y) (is_pair cs adj a b) in
            let d = place_b a b u v x y in
            any_in _ _ i w.0 (and_in
            (eq-eqb _ _ (first_position cs adj j i h w.0 ∙ ap (λ z. z / count_of cs b) w.1
            ∙ code_first (count_of cs b) (u - first_of cs a) (v - first_of cs b) d))
            (eq-eqb _ _ (second_position cs adj j i h w.0 ∙ ap (λ z. z % count_of cs b) w.1
            ∙ code_second (count_of cs b) (u - first_of cs a) (v - first_of cs b) d)))

    -- links joined by none: no frequencies differ by as much as 9,999,999
    none_allowed : length (rule_pairs cs adj j) ≡ 0 → (w : ℕ) (l : Bool)
        → zero_or_more (spare_by (kind_of cs adj j) (value_of cs adj j) w (distance (u + 1) (v + 1)) l) ≡ adj u v
    unfolding kind_of value_of distance rule_pairs
    none_allowed e w l =
        let few = S.freqs_few in
        let f : first_of cs a + count_of cs a ≤ vertices_of cs = link_within cs a x.link in
        let g : first_of cs b + count_of cs b ≤ vertices_of cs = link_within cs b y.link in
        let d : (u + 1 - (v + 1)) + (v + 1 - (u + 1)) < most_khz = omega (arith, x.high, y.high) in
        rw (e, near_barred most_khz w _ l d)
        (sym (is_false (adj u v) (λ t. let r = (listed_at a b u v x y t).0 in absurd (omega arith))))

    some_allowed : 0 < length (rule_pairs cs adj j) → (w d : ℕ) (l : Bool)
        → zero_or_more (spare_by (kind_of cs adj j) (value_of cs adj j) w d l) ≡ l
    unfolding kind_of
    some_allowed o w d l = let ne : length (rule_pairs cs adj j) ≡ 0
        → ⊥ = λ e. omega arith in three_allowed _ _ w d l (rw (ne_eqb (length (rule_pairs cs adj j)) 0 ne) refl)

    pub allows_is : zero_or_more (spare_row s (freq_rows cs ++ also) (rule_rows cs adj ++ rest) (pair_rows cs adj) j u v)
        ≡ adj u v
    unfolding spare_row lists_pair
    allows_is =
        let f : first_of cs a + count_of cs a ≤ vertices_of cs = link_within cs a x.link in
        let g : first_of cs b + count_of cs b ≤ vertices_of cs = link_within cs b y.link in
        let ul : u < vertices_of cs = omega (arith, x.high) in
        let vl : v < vertices_of cs = omega (arith, y.high) in
        rw (
          kind_field cs adj rest j h,
          value_field cs adj rest j h,
          pairs_field cs adj rest j h,
          a_field cs adj rest j h,
          b_field cs adj rest j h,
          L.first a x.link,
          L.first b y.link,
          freq_field cs also u ul,
          freq_field cs also v vl,
        )
        (bool (eqb (length (rule_pairs cs adj j)) 0)
        (λ e. none_allowed (eqb-true _ _ e) _ _)
        (λ e. let ne = eqb-false (length (rule_pairs cs adj j)) 0 e in let o : 0 < length (rule_pairs cs adj j) =
        omega (arith, ne) in
        some_allowed o _ _ _
        ∙ ap (λ z. any (length (rule_pairs cs adj j))
        (λ i. same_pair (pair_rows cs adj) (u - first_of cs a) (v - first_of cs b) (z + i))) (value_is cs adj S j o)
        ∙ lists))

  -- links a < b that are not joined by all pairs have a row
  row_of : (a b : ℕ) → a < b → b < length cs → is_full cs adj a b ≡ false
      → (j : ℕ) × (j < rule_total cs adj) × (ruled_a cs adj j ≡ a) × (ruled_b cs adj j ≡ b)
  unfolding ruled_a ruled_b ruled
  row_of a b l h e =
      let k = length cs in
      let z = a * k + b in
      let t = rule_test a b l h e in
      let c : z < k * k = code_lt k k a b (omega arith) h in
      let g = select_has (k * k) (is_ruled cs adj) z c t in (
        count z (is_ruled cs adj),
        rw select_length (count_pass z (k * k) (is_ruled cs adj) c t),
        ap (λ y. y / k) g ∙ code_first k a b h,
        ap (λ y. y % k) g ∙ code_second k a b h,
      )

  -- the rules allow just the pairs that are adjacent
  module _ (s also rest : List ℕ) (L : Counted cs s) where
    abbrev fs : List ℕ
    fs = freq_rows cs ++ also

    abbrev rs : List ℕ
    rs = rule_rows cs adj ++ rest

    abbrev ps : List ℕ
    ps = pair_rows cs adj

    module _ (a b u v : ℕ) (l : a < b) (x : In cs a u) (y : In cs b v) where
      row_says : (j : ℕ) → j < rule_total cs adj → ruled_a cs adj j ≡ a → ruled_b cs adj j ≡ b
          → zero_or_more (spare_row s fs rs ps j u v) ≡ adj u v
      row_says j h p q = allows_is s also rest L j u v h (rw p x) (rw q y)

      -- vertices of different links are on different frequencies
      apart : zero_or_more (spare_free fs u v) ≡ true
      unfolding first_of
      apart =
          let f : first_of cs a + count_of cs a ≤ first_of cs b = sum_in b a (count_of cs) l in
          let g : first_of cs b + count_of cs b ≤ vertices_of cs = link_within cs b y.link in
          let ul : u < vertices_of cs = omega (arith, x.high, y.low, y.high) in
          let vl : v < vertices_of cs = omega (arith, y.high) in
          free_allowed fs u v ∙ rw (freq_field cs also u ul, freq_field cs also v vl)
          (not_in (ne_eqb (u + 1) (v + 1) (λ e. omega (arith, x.high, y.low))))

      pub test_is : zero_or_more (spare s fs rs ps (rule_total cs adj) a b u v) ≡ adj u v
      test_is = spare_when s fs rs ps (λ z. zero_or_more z ≡ adj u v) (rule_total cs adj) a b u v
          (λ j h e. let o = of_out rs a b j e in
          row_says j h (sym (a_field cs adj rest j h) ∙ o.0) (sym (b_field cs adj rest j h) ∙ o.1))
          (λ j h e. let o = of_out rs b a j e in
          let i = sym (a_field cs adj rest j h) ∙ o.0 in
          let t = sym (b_field cs adj rest j h) ∙ o.1 in
          absurd (omega (arith, (ruled_is cs adj S j h).order)))
          (λ n. bool (is_full cs adj a b)
          (λ e. apart ∙ sym (full_joins a b u v x y e))
          (λ e. let r = row_of a b l y.link e in
          clash (of_links rs a b r.0)
          (of_in rs a b r.0 (a_field cs adj rest r.0 r.1 ∙ r.2) (b_field cs adj rest r.0 r.1 ∙ r.3))
          (n r.0 r.1).0))

    module _ (J : Joins cs adj) where
      lower_is : (u v : ℕ) → u < vertices_of cs → v < vertices_of cs → layer_by cs (length cs) u < layer_by cs (length cs) v
          → adjacent s fs rs ps (length cs) (vertices_of cs) (rule_total cs adj) u v ≡ adj u v
      unfolding adjacent links_differ
      lower_is u v a b l =
          let ne : layer_by cs (length cs) u ≡ layer_by cs (length cs) v → ⊥ = λ e. omega arith in
          rw (layer_rows cs s S L u, layer_rows cs s S L v, lt-ltb _ _ a, lt-ltb _ _ b, ne_eqb _ _ ne)
          (test_is (layer_by cs (length cs) u) (layer_by cs (length cs) v) u v l (layer_has cs s S L u a)
          (layer_has cs s S L v b))

      only_joined : (u v : ℕ) → adjacent s fs rs ps (length cs) (vertices_of cs) (rule_total cs adj) u v ≡ true
          → adj u v ≡ true
      only_joined u v t =
          let r = adjacent_out s fs rs ps (length cs) (vertices_of cs) (rule_total cs adj) u v t in
          let ne : layer_by cs (length cs) u ≡ layer_by cs (length cs) v
          → ⊥ = λ e. r.apart (layer_rows cs s S L u ∙ e ∙ sym (layer_rows cs s S L v)) in
          either (layer_by cs (length cs) u) (layer_by cs (length cs) v) ne
          (λ l. sym (lower_is u v r.left r.right l) ∙ t)
          (λ l. J.sy u v ∙ sym (lower_is v u r.right r.left l)
          ∙ adjacent_sym s fs rs ps (length cs) (vertices_of cs) (rule_total cs adj) v u ∙ t)

      all_joined : (u v : ℕ) → adj u v ≡ true
          → adjacent s fs rs ps (length cs) (vertices_of cs) (rule_total cs adj) u v ≡ true
      all_joined u v t = either (layer_by cs (length cs) u) (layer_by cs (length cs) v) (J.apart u v t)
          (λ l. lower_is u v (J.left u v t) (J.right u v t) l ∙ t)
          (λ l. adjacent_sym s fs rs ps (length cs) (vertices_of cs) (rule_total cs adj) u v
          ∙ lower_is v u (J.right u v t) (J.left u v t) l ∙ J.sy v u ∙ t)

      pub adjacent_is : adjacent s fs rs ps (length cs) (vertices_of cs) (rule_total cs adj) ≡ adj
      adjacent_is = fun_ext (λ u. fun_ext (λ v. iff _ _ (only_joined u v) (all_joined u v)))

  pub has_graph : Joins cs adj → HasGraph (sheet_of cs adj) cs adj
  has_graph J =
      let Q = sections cs adj in
      record {
        vertices = Q.n;
        links = Q.k;
        layers = fun_ext (λ v. ap (λ k. layer_of (sheet_of cs adj) k v) Q.k
            ∙ layer_rows cs (sheet_of cs adj) S Q.links v);
        edges = parts_same (sheet_of cs adj) Q.freqs Q.rules Q.pairs Q.k Q.n Q.q
            ∙ adjacent_is (sheet_of cs adj) _ _ Q.links J;
      }
