-- The two texts that export writes are read back.
use mathlib.Core.Path.{◌≡◌, refl, sym, ap, subst, ◌∙◌, fun_ext}
use mathlib.Core.Bool.{Bool, true, false, ◌&&◌, ◌||◌}
use mathlib.Core.Logic.{◌⊎◌, inl, inr}
use mathlib.Core.List.{List, [], ◌∷◌, ◌++◌, append-nil, append_assoc}
use Prim.Native.Nat.{ℕ, zero, suc, ◌+◌, ◌-◌, ◌*◌, ◌/◌, ◌%◌, ◌≤◌, ◌<◌}
use native.Mathlib.Omega.{arith}
use native.Mathlib.Nat.{mul-le-mul}
use lib.Dec.{ltb, leb, eqb}
use lib.ListN.{length, get_or, length-append}
use borrow.Author.Tests.{lt-ltb, le-ltb, le-leb, eq-eqb, ne_eqb, ltb-true, eqb-true}
use Rattle.sets.specs.Below.{count}
use Rattle.sets.specs.Sets.{Set, ◌∪◌, just, nothing}
use Rattle.sets.proofs.Tests.{bool, case, clash, iff, below, and_l, and_r, and_in, or_l, or_r, or_case}
use Rattle.sets.proofs.Below.{count_le}
use Rattle.lines.specs.Lines.{ascii, decimal, line}
use Rattle.dimacs.specs.Lists.{select, for_each}
use Rattle.dimacs.specs.Export.{is_edge, edge_codes, edge_text, graph_text, count_text, counts_text}
use Rattle.dimacs.specs.Reading.{field, newline, space, is_empty, count_of, vertices_of}
use Rattle.dimacs.specs.Reading.{layer_by, count_fits, CountList, no_counts, counts, counts_from, malformed}
use Rattle.dimacs.specs.Reading.{an_edge, is_vertex, edge_to, edge_from, edge_line, clashes, edges}
use Rattle.dimacs.specs.Reading.{edges_from, of_lines, lines_from, head_from, edges_of, texts, texts_over}
use Rattle.dimacs.specs.Reading.{texts_by, texts_of}
use Rattle.dimacs.specs.Made.{joined}
use Rattle.dimacs.specs.Import.{text_graph}
use Rattle.dimacs.proofs.Lists.{select_length, select_at}
use Rattle.dimacs.proofs.Choices.{yes_is, counts_turn, counts_tried, edges_turn}
use Rattle.dimacs.proofs.Codes.{code_first, code_second, code_back, code_lt, first_lt, second_lt}
use Rattle.dimacs.proofs.Accepts.{Small}
use Rattle.dimacs.proofs.Adjacent.{Joins, either}
use Rattle.dimacs.proofs.Sound.{Few, vertices_more, AllCounts, counts_few, none_few}
use Rattle.lines.proofs.Decimals.{bound}
use Rattle.dimacs.proofs.Numbers.{field_read, space_other, newline_other, line_is}

some_left : (a : List ℕ) (b : ℕ) (s : List ℕ) → is_empty (a ++ (b ∷ s)) ≡ false
some_left [] b s = refl
some_left (x ∷ a) b s = refl

-- a line takes a byte at least
each_some : (f : ℕ → List ℕ) (l : List ℕ) → ((z : ℕ) → 0 < length (f z)) → length l ≤ length (for_each f l)
unfolding for_each
each_some f [] h = omega arith
each_some f (z ∷ l) h = let r = each_some f l h in let a = length-append (f z) (for_each f l) in let b = h z in
    omega arith

-- counts

counts_bytes : (cs : List ℕ) → length cs ≤ length (counts_text cs)
unfolding counts_text count_text ascii
counts_bytes cs = each_some count_text cs (λ c. let a = length-append (decimal c) (newline ∷ []) in omega arith)

count_text_lem : (c : ℕ) (s : List ℕ) → count_text c ++ s ≡ decimal c ++ (newline ∷ s)
unfolding count_text ascii
count_text_lem c s = simp append_assoc

front_few : (cs : List ℕ) (c : ℕ) (ds : List ℕ) → vertices_of (cs ++ (c ∷ [])) ≤ vertices_of ((cs ++ (c ∷ [])) ++ ds)
front_few cs c [] = rw append-nil (omega arith)
front_few cs c (d ∷ ds) =
    let e : (cs ++ (c ∷ [])) ++ (d ∷ ds) ≡ ((cs ++ (c ∷ [])) ++ (d ∷ [])) ++ ds =
    sym (append_assoc (cs ++ (c ∷ [])) (d ∷ []) ds) in
    let r = front_few (cs ++ (c ∷ [])) d ds in
    let v = vertices_more (cs ++ (c ∷ [])) d in
    rw e (omega arith)

fits_next : (cs : List ℕ) (c : ℕ) (ds : List ℕ) → Few ((cs ++ (c ∷ [])) ++ ds) → count_fits cs c ≡ true
unfolding count_fits
fits_next cs c ds F =
    let a = length-append (cs ++ (c ∷ [])) ds in
    let b = length-append cs (c ∷ []) in
    let l : length cs < 64 = omega (arith, F.links) in
    let h : length cs < length ((cs ++ (c ∷ [])) ++ ds) = omega arith in
    let p : count_of ((cs ++ (c ∷ [])) ++ ds) (length cs) ≡ c =
    ap (λ x. get_or x (length cs) 0) (append_assoc cs (c ∷ []) ds) ∙ at_seam cs c ds in
    let o : 0 < c = omega (arith, F.some (length cs) h) in
    let v = vertices_more cs c in
    let w = front_few cs c ds in
    let n : vertices_of cs + c ≤ 512 = omega (arith, F.freqs) in
    and_in (lt-ltb _ _ l) (and_in (lt-ltb _ _ o) (le-leb _ _ n))
  where
    at_seam : (cs : List ℕ) (c : ℕ) (ds : List ℕ) → get_or (cs ++ (c ∷ ds)) (length cs) 0 ≡ c
    at_seam [] c ds = refl
    at_seam (x ∷ cs) c ds = at_seam cs c ds

count_small : (d : ℕ) (ds cs : List ℕ) → Few ((cs ++ (d ∷ [])) ++ ds) → d < bound 20
count_small d ds cs F = omega (arith, front_few cs d ds, vertices_more cs d, F.freqs)

counts_read : (ds cs : List ℕ) (turns : ℕ) → Few (cs ++ ds) → length ds < turns
    → counts_from turns cs (counts_text ds) ≡ counts (cs ++ ds)
unfolding counts_from counts_text for_each
counts_read [] cs zero F h = absurd (omega arith)
counts_read [] cs (suc turns) F h = ap counts (sym (append-nil cs))
counts_read (d ∷ ds) cs zero F h = absurd (omega arith)
counts_read (d ∷ ds) cs (suc turns) F h =
    let G : Few ((cs ++ (d ∷ [])) ++ ds) = rw append_assoc F in
    ap (counts_from (suc turns) cs) (count_text_lem d (for_each count_text ds))
    ∙ counts_turn turns cs (decimal d ++ (newline ∷ for_each count_text ds)) d (for_each count_text ds)
    (some_left (decimal d) newline (for_each count_text ds))
    (field_read newline newline_other [] d (for_each count_text ds) (count_small d ds cs G)) (fits_next cs d ds G)
    ∙ counts_read ds (cs ++ (d ∷ [])) turns G (omega arith) ∙ ap counts (append_assoc cs (d ∷ []) ds)

-- whatever they are, the counts of a text are read as they were written or not at all
counts_as_written : (ds cs : List ℕ) (turns : ℕ) → ((l : ℕ) → count_of ds l < bound 20)
    → AllCounts (λ l. l ≡ cs ++ ds) (counts_from turns cs (counts_text ds))
unfolding counts_from counts_text for_each
counts_as_written ds cs zero h = tt
counts_as_written [] cs (suc turns) h = sym (append-nil cs)
counts_as_written (d ∷ ds) cs (suc turns) h =
    subst (λ s. AllCounts (λ l. l ≡ cs ++ (d ∷ ds)) (counts_from (suc turns) cs s))
    (sym (count_text_lem d (for_each count_text ds)))
    (subst (AllCounts (λ l. l ≡ cs ++ (d ∷ ds)))
    (sym (counts_tried turns cs (decimal d ++ (newline ∷ for_each count_text ds)) d (for_each count_text ds)
    (some_left (decimal d) newline (for_each count_text ds))
    (field_read newline newline_other [] d (for_each count_text ds) (h 0))))
    (case (AllCounts (λ l. l ≡ cs ++ (d ∷ ds))) (count_fits cs d) _ _
    (λ e. subst (λ y. AllCounts (λ l. l ≡ y) (counts_from turns (cs ++ (d ∷ [])) (counts_text ds)))
    (append_assoc cs (d ∷ []) ds) (counts_as_written ds (cs ++ (d ∷ [])) turns (λ l. h (suc l))))
    (λ e. tt)))

-- so texts whose counts are beyond the limits are not read
pub beyond_read : (text cs : List ℕ) → ((l : ℕ) → count_of cs l < bound 20) → (Few cs → ⊥)
    → texts_of text (counts_text cs) ≡ malformed
unfolding texts_of texts_by
beyond_read text cs h many = go (counts_from (length (counts_text cs) + 1) [] (counts_text cs))
    (counts_as_written cs [] (length (counts_text cs) + 1) h)
    (counts_few (length (counts_text cs) + 1) [] (counts_text cs) none_few)
  where
    go : (w : CountList) → AllCounts (λ l. l ≡ cs) w → AllCounts Few w → texts_by text w ≡ malformed
    go no_counts a b = refl
    go (counts l) a b = absurd (many (subst Few a b))

-- edges

-- the codes after those of a list are added, and whether 14 names one of them
adds : Set → List ℕ → Set
adds E [] = E
adds E (z ∷ zs) = adds (E ∪ just z) zs

module _ (cs : List ℕ) where
  abbrev n : ℕ
  n = vertices_of cs

  hits : Set → Bool → List ℕ → Bool
  hits E x [] = x
  hits E x (z ∷ zs) = hits (E ∪ just z) (x || clashes cs E (z / n) (z % n)) zs

  adds_more : (E : Set) (zs : List ℕ) (z : ℕ) → adds E (zs ++ (z ∷ [])) ≡ adds E zs ∪ just z
  unfolding adds
  adds_more E [] z = refl
  adds_more E (y ∷ zs) z = adds_more (E ∪ just y) zs z

  hits_more : (E : Set) (x : Bool) (zs : List ℕ) (z : ℕ)
      → hits E x (zs ++ (z ∷ [])) ≡ (hits E x zs || clashes cs (adds E zs) (z / n) (z % n))
  unfolding hits adds
  hits_more E x [] z = refl
  hits_more E x (y ∷ zs) z = hits_more (E ∪ just y) (x || clashes cs E (y / n) (y % n)) zs z

  -- the line of a code is read back
  vertex_ok : (u : ℕ) → u < n → is_vertex n (u + 1) ≡ true
  unfolding is_vertex
  vertex_ok u h = and_in (lt-ltb 0 (u + 1) (omega arith)) (le-leb (u + 1) n (omega arith))

  module _ (few : n ≤ 512) where
    line_read : (z : ℕ) (s : List ℕ) → z < n * n → edge_line n (edge_text n z ++ s) ≡ an_edge (z / n) (z % n) s
    unfolding edge_line edge_from edge_to edge_text
    line_read z s h =
        let a = first_lt n n z h in
        let b = second_lt n n z h in
        let x : z / n + 1 - 1 ≡ z / n = omega arith in
        let y : z % n + 1 - 1 ≡ z % n = omega arith in
        ap (edge_line n) (line_is (ascii "e ") (z / n + 1) (z % n + 1) s)
        ∙ ap (edge_from n)
        (field_read space space_other (ascii "e ") (z / n + 1) (decimal (z % n + 1) ++ (newline ∷ s)) (omega arith))
        ∙ ap (edge_to n (z / n + 1)) (field_read newline newline_other [] (z % n + 1) s (omega arith))
        ∙ yes_is _ _ _ (and_in (vertex_ok (z / n) a) (vertex_ok (z % n) b)) ∙ rw (x, y)

    line_some : (z : ℕ) (s : List ℕ) → is_empty (edge_text n z ++ s) ≡ false
    unfolding edge_text ascii
    line_some z s = rw (line_is (ascii "e ") (z / n + 1) (z % n + 1) s)

    lines_read : (zs : List ℕ) (turns m : ℕ) (E : Set) (x : Bool) → ((i : ℕ) → i < length zs → get_or zs i 0 < n * n)
        → length zs < turns
        → edges_from cs turns m E x (for_each (edge_text n) zs) ≡ edges (m + length zs) (adds E zs) (hits E x zs)
    unfolding edges_from for_each adds hits
    lines_read [] zero m E x f h = absurd (omega arith)
    lines_read [] (suc turns) m E x f h = let e : m + 0 ≡ m = omega arith in rw e
    lines_read (z ∷ zs) zero m E x f h = absurd (omega arith)
    lines_read (z ∷ zs) (suc turns) m E x f h =
        let e : m + length (z ∷ zs) ≡ m + 1 + length zs = omega arith in
        edges_turn cs turns m E x (edge_text n z ++ for_each (edge_text n) zs) (z / n) (z % n) (for_each (edge_text n) zs)
        (line_some z (for_each (edge_text n) zs)) (line_read z (for_each (edge_text n) zs) (f 0 (omega arith)))
        ∙ ap (λ y. edges_from cs turns (m + 1) (E ∪ just y) (x || clashes cs E (z / n) (z % n))
        (for_each (edge_text n) zs)) (code_back n z)
        ∙ rw e (lines_read zs turns (m + 1) (E ∪ just z) (x || clashes cs E (z / n) (z % n))
        (λ i l. f (suc i) (omega arith)) (omega arith))

  -- the codes that export writes, added one by one: each of them, and 14 names none
  module _ (adj : ℕ → ℕ → Bool) (J : Joins cs adj) where
    pub so_far : ℕ → Set
    so_far m z = ltb z m && is_edge n adj z

    so_far_more : (m : ℕ) → is_edge n adj m ≡ true → so_far m ∪ just m ≡ so_far (suc m)
    unfolding so_far ◌∪◌ just
    so_far_more m e = fun_ext (λ z. iff _ _
        (λ t. split z (or_case (ltb z m && is_edge n adj z) (eqb z m) t))
        (λ t. below z m (ltb-true z (suc m) (and_l (ltb z (suc m)) (is_edge n adj z) t))
        (λ l. or_l _ (and_in (lt-ltb z m l) (and_r (ltb z (suc m)) (is_edge n adj z) t)))
        (λ q. or_r (ltb z m && is_edge n adj z) (eq-eqb z m q))))
      where
        split : (z : ℕ) → ((ltb z m && is_edge n adj z) ≡ true) ⊎ (eqb z m ≡ true)
            → (ltb z (suc m) && is_edge n adj z) ≡ true
        split z (inl t) = let h = ltb-true z m (and_l (ltb z m) (is_edge n adj z) t) in
            and_in (lt-ltb z (suc m) (omega arith)) (and_r (ltb z m) (is_edge n adj z) t)
        split z (inr t) = let q = eqb-true z m t in and_in (lt-ltb z (suc m) (omega arith)) (rw q e)

    so_far_same : (m : ℕ) → is_edge n adj m ≡ false → so_far m ≡ so_far (suc m)
    unfolding so_far
    so_far_same m e = fun_ext (λ z. iff _ _
        (λ t. let h = ltb-true z m (and_l (ltb z m) (is_edge n adj z) t) in
        and_in (lt-ltb z (suc m) (omega arith)) (and_r (ltb z m) (is_edge n adj z) t))
        (λ t. below z m (ltb-true z (suc m) (and_l (ltb z (suc m)) (is_edge n adj z) t))
        (λ l. and_in (lt-ltb z m l) (and_r (ltb z (suc m)) (is_edge n adj z) t))
        (λ q. clash (is_edge n adj m) (rw q at (and_r (ltb z (suc m)) (is_edge n adj z) t)) e)))

    adds_all : (m : ℕ) → adds nothing (select m (is_edge n adj)) ≡ so_far m
    unfolding select adds so_far nothing
    adds_all zero = fun_ext (λ z. rw (le-ltb z 0 (omega arith)))
    adds_all (suc m) = bool (is_edge n adj m)
        (λ e. rw e (adds_more nothing (select m (is_edge n adj)) m ∙ ap (λ S. S ∪ just m) (adds_all m)
        ∙ so_far_more m e))
        (λ e. rw (e, append-nil) (adds_all m ∙ so_far_same m e))

    -- an edge with u < v joins different links, and has not been read either way
    no_clash : (m : ℕ) → m < n * n → is_edge n adj m ≡ true → clashes cs (so_far m) (m / n) (m % n) ≡ false
    unfolding clashes so_far is_edge
    no_clash m h e =
        let l = ltb-true (m / n) (m % n) (and_l (ltb (m / n) (m % n)) (adj (m / n) (m % n)) e) in
        let b = second_lt n n m h in
        let a : m / n < n = first_lt n n m h in
        rw (
          ne_eqb _ _ (J.apart (m / n) (m % n) (and_r (ltb (m / n) (m % n)) (adj (m / n) (m % n)) e)),
          code_back n m,
          le-ltb m m (omega arith),
          code_first n (m % n) (m / n) a,
          code_second n (m % n) (m / n) a,
          le-ltb (m % n) (m / n) (omega arith),
        )
        (none (ltb (m % n * n + m / n) m))
      where
        none : (b : Bool) → (b && false) ≡ false
        none true = refl
        none false = refl

    hits_none : (m : ℕ) → m ≤ n * n → hits nothing false (select m (is_edge n adj)) ≡ false
    unfolding select hits
    hits_none zero h = refl
    hits_none (suc m) h = bool (is_edge n adj m)
        (λ e. rw e (hits_more nothing false (select m (is_edge n adj)) m
        ∙ rw (hits_none m (omega arith), adds_all m) (no_clash m (omega arith) e)))
        (λ e. rw (e, append-nil) (hits_none m (omega arith)))

    -- and the graph that they say is the graph that was written
    edge_out : (u v : ℕ) → v < n → so_far (n * n) (u * n + v) ≡ true → adj u v ≡ true
    unfolding so_far is_edge
    edge_out u v h t = rw (code_first n u v h, code_second n u v h) at
        (and_r (ltb ((u * n + v) / n) ((u * n + v) % n)) _ (and_r (ltb (u * n + v) (n * n)) _ t))

    edge_in : (u v : ℕ) → u < n → v < n → u < v → adj u v ≡ true → so_far (n * n) (u * n + v) ≡ true
    unfolding so_far is_edge
    edge_in u v a b l t = and_in (lt-ltb _ _ (code_lt n n u v a b))
        (rw (code_first n u v b, code_second n u v b) (and_in (lt-ltb u v l) t))

    pub written_graph : text_graph cs (so_far (n * n)) ≡ adj
    unfolding joined
    written_graph = fun_ext (λ u. fun_ext (λ v. iff _ _
        (λ t. let a = ltb-true u n (and_l (ltb u n) (ltb v n) (and_l (ltb u n && ltb v n) _ t)) in
        let b = ltb-true v n (and_r (ltb u n) (ltb v n) (and_l (ltb u n && ltb v n) _ t)) in
        split u v a b
        (or_case (so_far (n * n) (u * n + v)) (so_far (n * n) (v * n + u)) (and_r (ltb u n && ltb v n) _ t)))
        (λ t. let a = J.left u v t in let b = J.right u v t in
        and_in (and_in (lt-ltb u n a) (lt-ltb v n b))
        (either u v (λ q. J.apart u v t (ap (layer_by cs (length cs)) q))
        (λ l. or_l _ (edge_in u v a b l t))
        (λ l. or_r (so_far (n * n) (u * n + v)) (edge_in v u b a l (J.sy v u ∙ t)))))))
      where
        split : (u v : ℕ) → u < n → v < n → (so_far (n * n) (u * n + v) ≡ true) ⊎ (so_far (n * n) (v * n + u) ≡ true)
            → adj u v ≡ true
        split u v a b (inl t) = edge_out u v b t
        split u v a b (inr t) = J.sy u v ∙ edge_out v u a t

    -- both texts are read back
    module _ (S : Small cs) where
      codes_below : (i : ℕ) → i < length (edge_codes n adj) → get_or (edge_codes n adj) i 0 < n * n
      unfolding edge_codes
      codes_below i h = (select_at (n * n) (is_edge n adj) i (rw select_length at h)).lt

      codes_few : length (edge_codes n adj) ≤ 262144
      unfolding edge_codes
      codes_few = rw select_length
          (omega (arith, count_le (n * n) (is_edge n adj), mul-le-mul S.freqs_few S.freqs_few))

      line_bytes : (z : ℕ) → 0 < length (edge_text n z)
      unfolding edge_text line ascii
      line_bytes z = omega arith

      same : edges (0 + length (edge_codes n adj)) (adds nothing (edge_codes n adj))
          (hits nothing false (edge_codes n adj)) ≡ edges (length (edge_codes n adj)) (so_far (n * n)) false
      unfolding edge_codes
      same = let e : 0 + length (edge_codes n adj) ≡ length (edge_codes n adj) = omega arith in
          rw (e, adds_all (n * n), hits_none (n * n) (omega arith))

      pub edges_read : edges_of cs (graph_text n adj) ≡ edges (length (edge_codes n adj)) (so_far (n * n)) false
      unfolding edges_of head_from lines_from of_lines graph_text
      edges_read =
          let zs = edge_codes n adj in
          let m = length zs in
          let rest = for_each (edge_text n) zs in
          let few = S.freqs_few in
          let c = codes_few in
          ap (λ t. head_from cs (field (ascii "p edge ") space t)) (line_is (ascii "p edge ") n m rest)
          ∙ ap (head_from cs)
          (field_read space space_other (ascii "p edge ") n (decimal m ++ (newline ∷ rest)) (omega arith))
          ∙ yes_is (eqb n n) _ _ (eq-eqb n n refl)
          ∙ ap (lines_from cs) (field_read newline newline_other [] m rest (omega arith))
          ∙ ap (of_lines m)
          (lines_read few zs (length rest + 1) 0 nothing false codes_below
          (omega (arith, each_some (edge_text n) zs line_bytes)))
          ∙ yes_is (eqb (0 + m) m) _ _ (eq-eqb (0 + m) m (omega arith))
          ∙ same

      pub texts_read : texts_of (graph_text n adj) (counts_text cs) ≡ texts cs (so_far (n * n))
      unfolding texts_of texts_by texts_over
      texts_read =
          let F : Few ([] ++ cs) = record { links = S.links_few; freqs = S.freqs_few; some = S.some } in
          ap (texts_by (graph_text n adj))
          (counts_read cs [] (length (counts_text cs) + 1) F (omega (arith, counts_bytes cs)))
          ∙ yes_is (ltb 0 (length cs)) _ _ (lt-ltb 0 (length cs) S.links_some)
          ∙ ap (texts_over cs) edges_read
