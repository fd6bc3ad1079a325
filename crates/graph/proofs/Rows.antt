-- Laws of the adjacency rows: row u before any rule, what one rule more makes of it, and the rows under all rules.
use Rattle.std.proofs.Common.{◌≡◌, sym, ap, subst, ◌∙◌, Bool, true, false, not, ◌&&◌, ◌||◌, List, ℕ, ◌+◌, ◌-◌, ◌*◌, ◌≤◌, ◌<◌, mul-le-mul_right, arith, eqb, ltb, eqb-true, eq-eqb, lt-ltb, le-ltb}
use mathlib.Core.Path.{fun_ext}
use native.Mathlib.Decide.{dec_lt}
use Rattle.sets.specs.Sets.{Set, ◌∪◌, ◌∖◌, nothing, whole}
use Rattle.sets.proofs.Tests.{clash, bool, is_false, eqb_turned, and_l, and_r}
use Rattle.sheet_rows.specs.Rows.{link_first, link_count, freq, rule_a, rule_b}
use Rattle.sheet.proofs.Links.{link_in, link_some}
use Rattle.sheet.specs.Sheet.{q_of, freq_part, rule_part, pair_part}
use Rattle.rules.specs.Job.{job_of}
use Rattle.pair_test.specs.Layers.{layer_of, InLink}
use Rattle.spacing.specs.Spacing.{zero_or_more}
use Rattle.pair_test.specs.Pairs.{of_links, spare_free, spare_row, spare}
use Rattle.pair_test.specs.Parts.{LinkRows, Parts}
use Rattle.pair_test.proofs.Laws.{layer_of_lem, layer_in, in_link_lt, link_test, rule_links}
use Rattle.pair_test.proofs.Pairing.{free_allowed, of_in, of_not, spare_own, spare_turn, spare_past, spare_yet}
use Rattle.rows.specs.Rows.{set_at, row_at, Begins, Outside, Put}
use Rattle.rows.proofs.Rows.{outside_then, outside_wide}
use Rattle.cliques.specs.declared.Place.{Place}
use Rattle.graph.specs.Graph.{links_differ, adjacent, edge}
use Rattle.graph.specs.Rows.{RowsAsked, Built}
use Rattle.rule_strikes.specs.Strikes.{stretch, side_of, allowed, under_rule, Full, Rewritten}
use Rattle.graph.specs.Buckets.{sharing, on_freq, separated}
use Rattle.rule_strikes.proofs.Spans.{stretch_out, stretch_whole, put_as}
use Rattle.rule_strikes.proofs.Strikes.{stretch_put, rows_join, rows_as, row_written}
use Rattle.rule_strikes.proofs.Sides.{allowed_a, allowed_b, allows_differ}
use Rattle.graph.proofs.Graph.{differ_in, adjacent_in_lem, adjacent_sym, adjacent_past}

-- before any rule

-- a vertex of link l is beside every vertex but those of l
pub links_differ_lem : {sheet : List ℕ} {k n : ℕ} → LinkRows sheet k n → (l u : ℕ) → l < k → InLink sheet l u
    → whole n ∖ stretch (link_first sheet l) (link_first sheet l + link_count sheet l) ≡ links_differ sheet k n u
unfolding links_differ whole ◌∖◌ stretch
links_differ_lem {sheet} {k} {n} L l u h i = fun_ext (λ v. go v (dec_lt v n))
  where
    go : (v : ℕ) → Dec (v < n) → ltb v n && not (stretch (link_first sheet l) (link_first sheet l + link_count sheet l) v)
        ≡ (ltb u n && ltb v n) && not (eqb (layer_of sheet k u) (layer_of sheet k v))
    go v (yes m) = rw (
      link_test sheet k n L.links l v h m,
      layer_of_lem sheet k n L.links l u h i,
      lt-ltb v n m,
      lt-ltb u n (in_link_lt sheet k n L.links l u h i),
    )
    go v (no m) = rw (le-ltb v n (omega arith), lt-ltb u n (in_link_lt sheet k n L.links l u h i))

-- the rows of link l, where its first row is written and then the others after it
pub link_written : {sheet p₀ p₁ p₂ : List ℕ} {k n w graph : ℕ} → LinkRows sheet k n → (full l row : ℕ) → l < k
    → row ≡ graph + link_first sheet l * w → set_at p₀ w full ≡ whole n
    → Put (set_at p₀ w full ∖ stretch (link_first sheet l) (link_first sheet l + link_count sheet l)) w row p₀ p₁
    → Rewritten (λ (u : ℕ) (S : Set). row_at p₁ w graph (link_first sheet l)) (link_first sheet l + 1)
    (link_first sheet l + link_count sheet l) w graph n p₁ p₂
    → Rewritten (λ (u : ℕ) (S : Set). links_differ sheet k n u) (link_first sheet l)
    (link_first sheet l + link_count sheet l) w graph n p₀ p₂
link_written {sheet} {p₀} {p₁} {p₂} {k} {n} {w} {graph} L full l row h here e P R =
    let i = link_in sheet k n L.links l h in
    let s = link_some sheet k n L.links l h in
    rows_join differing w graph n first (first + 1) end (omega arith) (omega arith) i
    (row_written differing w graph n first row (omega arith) here
    (put_as (start ∙ same first (omega arith) (omega arith)) P))
    (rows_as (λ (u : ℕ) (S : Set). row_at p₁ w graph first) w graph n differing
    (λ x a b. (rw here at P.here) ∙ start ∙ same x (omega arith) b) R)
  where
    first : ℕ
    first = link_first sheet l

    end : ℕ
    end = link_first sheet l + link_count sheet l

    differing : ℕ → Set → Set
    differing u S = links_differ sheet k n u

    start : set_at p₀ w full ∖ stretch first end ≡ whole n ∖ stretch first end
    start = ap (λ (X : Set). X ∖ stretch first end) e

    same : (u : ℕ) → first ≤ u → u < end → whole n ∖ stretch first end ≡ links_differ sheet k n u
    same u a b = links_differ_lem L l u h (record { low = a; high = b })

among : (sheet : List ℕ) (k n u v : ℕ) → links_differ sheet k n u v ≡ true → ltb v n ≡ true
unfolding links_differ
among sheet k n u v e = and_r (ltb u n) _ (and_l (ltb u n && ltb v n) _ e)

-- and, its own frequency aside, adjacent to them
separated_row : (sheet fs rs ps : List ℕ) (k n u : ℕ)
    → separated fs n u (links_differ sheet k n u) ≡ adjacent sheet fs rs ps k n 0 u
unfolding adjacent spare on_freq sharing ◌∖◌
separated_row sheet fs rs ps k n u = fun_ext (λ v. bool (links_differ sheet k n u v) (there v) (λ e. rw e))
  where
    there : (v : ℕ) → links_differ sheet k n u v ≡ true
        → links_differ sheet k n u v && not (ltb v n && eqb (freq fs v) (freq fs u))
        ≡ links_differ sheet k n u v && zero_or_more (spare_free fs u v)
    there v e = rw (e, among sheet k n u v e, free_allowed fs u v, eqb_turned (freq fs u) (freq fs v))

pub separated_built : {w graph n : ℕ} {p₀ p p' : List ℕ} (sheet fs rs ps : List ℕ) (k : ℕ)
    → Built (links_differ sheet k n) w graph n p₀ p → Rewritten (separated fs n) 0 n w graph n p p'
    → Built (adjacent sheet fs rs ps k n 0) w graph n p₀ p'
separated_built {n = n} sheet fs rs ps k B R = record {
  rows = λ u h. R.rows u (omega arith) h ∙ ap (separated fs n u) (B.rows u h) ∙ separated_row sheet fs rs ps k n u;
  rest = outside_then B.rest R.rest;
}

-- one rule more

-- a part of a row cut out and written anew: in the part, and past it
in_part : (x s y : Bool) → s ≡ true → (x && not s) || (s && y) ≡ y
in_part true s y e = rw e
in_part false s y e = rw e

past_part : (x s y : Bool) → s ≡ false → (x && not s) || (s && y) ≡ x
past_part true s y e = rw e
past_part false s y e = rw e

module _ {sheet fs rs ps : List ℕ} {k n q t : ℕ} (P : Parts sheet fs rs ps k n q t) where
  -- v is a vertex of link l, a stretch of vertices
  abbrev of : ℕ → Set
  of l = stretch (link_first sheet l) (link_first sheet l + link_count sheet l)

  abbrev adj : ℕ → ℕ → Set
  adj = adjacent sheet fs rs ps k n

  abbrev allow : ℕ → ℕ → ℕ → Bool
  allow j u v = zero_or_more (spare_row sheet fs rs ps j u v)

  -- a link's vertices are a stretch, and its layer
  stretch_layer : (l v : ℕ) → l < k → v < n → of l v ≡ eqb l (layer_of sheet k v)
  unfolding stretch
  stretch_layer l v h b = link_test sheet k n P.links l v h b

  stretch_past : (l v : ℕ) → l < k → (v < n → ⊥) → of l v ≡ false
  stretch_past l v g o = is_false _ (λ e.
      let x = stretch_out (link_first sheet l) (link_first sheet l + link_count sheet l) v e in
      omega (arith, link_in sheet k n P.links l g, o))

  -- a vertex of link l is of no other
  one_link : (l m u : ℕ) → m < k → l ≡ layer_of sheet k u → (l ≡ m → ⊥) → link_first sheet m ≤ u
      → u < link_first sheet m + link_count sheet m → ⊥
  one_link l m u g e ne d h = ne (e ∙ layer_of_lem sheet k n P.links m u g (record { low = d; high = h }))

  -- two vertices of different links: what the pair test says is whether they are adjacent
  test_is : (m u v : ℕ) (x : Bool) → u < n → v < n → (layer_of sheet k u ≡ layer_of sheet k v → ⊥)
      → zero_or_more (spare sheet fs rs ps m (layer_of sheet k u) (layer_of sheet k v) u v) ≡ x → adj m u v ≡ x
  unfolding adjacent
  test_is m u v x a b ne e = rw (differ_in sheet k n u v a b ne) e

  -- a rule of other links changes nothing
  same_test : (j u v : ℕ) → of_links rs (layer_of sheet k u) (layer_of sheet k v) j ≡ false
      → of_links rs (layer_of sheet k v) (layer_of sheet k u) j ≡ false
      → adj j u v ≡ adj (j + 1) u v
  unfolding adjacent
  same_test j u v e f = rw (spare_past sheet fs rs ps j (layer_of sheet k u) (layer_of sheet k v) u v e f)

  module _ (j : ℕ) (b : j < q) where
    abbrev x : ℕ
    x = rule_a rs j

    abbrev y : ℕ
    y = rule_b rs j

    x_link : x < k
    x_link = let o = rule_links P j b in omega arith

    y_link : y < k
    y_link = (rule_links P j b).1

    links_apart : x ≡ y → ⊥
    links_apart e = let o = rule_links P j b in omega arith

    -- the rows of its two links, and of others, under rule row j: first a row of link l, where the rule says `said` of
    -- its vertex with those of the other link m
    ruled_side : (t : Bool) (l m : ℕ) → m < k → (l ≡ m → ⊥) → (u : ℕ) → u < n → l ≡ layer_of sheet k u → (said : Set)
        → ((v : ℕ) → allowed fs ps (side_of sheet rs j t l m) u v ≡ of m v && said v)
        → ((v : ℕ) → m ≡ layer_of sheet k v
        → zero_or_more (spare sheet fs rs ps (j + 1) (layer_of sheet k u) (layer_of sheet k v) u v) ≡ said v)
        → ((v : ℕ) → (m ≡ layer_of sheet k v → ⊥) → (of_links rs (layer_of sheet k u) (layer_of sheet k v) j ≡ false)
        × (of_links rs (layer_of sheet k v) (layer_of sheet k u) j ≡ false))
        → under_rule fs ps (side_of sheet rs j t l m) u (adj j u) ≡ adj (j + 1) u
    unfolding ◌∖◌ ◌∪◌
    ruled_side t l m mk ne u h e said parts theirs others = fun_ext (λ v.
        ap (λ z. (adj j u v && not (of m v)) || z) (parts v) ∙ go v (dec_lt v n))
      where
        go : (v : ℕ) → Dec (v < n) → (adj j u v && not (of m v)) || (of m v && said v) ≡ adj (j + 1) u v
        go v (yes i) =
            bool (eqb m (layer_of sheet k v))
            (λ f. let g = eqb-true m (layer_of sheet k v) f in
            in_part (adj j u v) (of m v) (said v) (stretch_layer m v mk i ∙ f)
            ∙ sym (test_is (j + 1) u v (said v) h i (λ d. ne (e ∙ d ∙ sym g)) (theirs v g)))
            (λ f. let o = others v (λ g. clash (eqb m (layer_of sheet k v)) (eq-eqb m (layer_of sheet k v) g) f) in
            past_part (adj j u v) (of m v) (said v) (stretch_layer m v mk i ∙ f) ∙ same_test j u v o.0 o.1)
        go v (no i) = past_part (adj j u v) (of m v) (said v) (stretch_past m v mk i)
            ∙ adjacent_past sheet fs rs ps k n j u v i ∙ sym (adjacent_past sheet fs rs ps k n (j + 1) u v i)

    ruled_a_lem : (u : ℕ) → u < n → x ≡ layer_of sheet k u → under_rule fs ps (side_of sheet rs j false x y) u (adj j u)
        ≡ adj (j + 1) u
    ruled_a_lem u h e = ruled_side false x y y_link links_apart u h e (allow j u) (allowed_a sheet fs rs ps j u)
        (λ v g. ap zero_or_more (spare_own sheet fs rs ps j (layer_of sheet k u) (layer_of sheet k v) u v
        (of_in rs (layer_of sheet k u) (layer_of sheet k v) j e g)))
        (λ v ne. (
          of_not rs (layer_of sheet k u) (layer_of sheet k v) j (λ _ g. ne g),
          of_not rs (layer_of sheet k v) (layer_of sheet k u) j (λ _ g. links_apart (e ∙ sym g)),
        ))

    ruled_b_lem : (u : ℕ) → u < n → y ≡ layer_of sheet k u → under_rule fs ps (side_of sheet rs j true y x) u (adj j u)
        ≡ adj (j + 1) u
    ruled_b_lem u h e = ruled_side true y x x_link (λ g. links_apart (sym g)) u h e (λ v. allow j v u)
        (allowed_b sheet fs rs ps j u)
        (λ v g. ap zero_or_more (spare_turn sheet fs rs ps j (layer_of sheet k u) (layer_of sheet k v) u v
        (of_not rs (layer_of sheet k u) (layer_of sheet k v) j (λ i _. links_apart (i ∙ sym e)))
        (of_in rs (layer_of sheet k v) (layer_of sheet k u) j g e)))
        (λ v ne. (
          of_not rs (layer_of sheet k u) (layer_of sheet k v) j (λ g _. links_apart (g ∙ sym e)),
          of_not rs (layer_of sheet k v) (layer_of sheet k u) j (λ g _. ne g),
        ))

    ruled_none : (u : ℕ) → (x ≡ layer_of sheet k u → ⊥) → (y ≡ layer_of sheet k u → ⊥)
        → adj j u ≡ adj (j + 1) u
    ruled_none u e f = fun_ext (λ v. same_test j u v
        (of_not rs _ _ j (λ g _. e g)) (of_not rs _ _ j (λ _ g. f g)))

    -- until rule j the vertices of its links are adjacent where their frequencies differ
    yet_adjacent : (u v : ℕ) → InLink sheet x u → InLink sheet y v → zero_or_more (spare_free fs u v) ≡ true
        → adj j u v ≡ true
    yet_adjacent u v iu iv d =
        let e = layer_of_lem sheet k n P.links x u x_link iu in
        let f = layer_of_lem sheet k n P.links y v y_link iv in
        adjacent_in_lem sheet fs rs ps k n j u v (in_link_lt sheet k n P.links x u x_link iu)
        (in_link_lt sheet k n P.links y v y_link iv)
        (λ g. links_apart (sym e ∙ g ∙ f)) (rw (e, f) (ap zero_or_more (spare_yet P j u v b) ∙ d))

    -- the rows of both its links before it is applied, and of the other link after the first
    pub full_a : {w graph : ℕ} {p : List ℕ} → ((u : ℕ) → u < n → row_at p w graph u ≡ adj j u)
        → Full fs ps (side_of sheet rs j false x y) w graph p
    full_a R = record {
      row = λ ne u c d v e.
          let i : InLink sheet x u = record { low = c; high = d } in
          let a = sym (allowed_a sheet fs rs ps j u v) ∙ e in
          let o = stretch_out _ _ v (and_l (of y v) _ a) in
          ap (λ (X : Set). X v) (R u (in_link_lt sheet k n P.links x u x_link i))
          ∙ yet_adjacent u v i (record { low = o.0; high = o.1 })
          (allows_differ P j b u v ne (and_r (of y v) _ a));
    }

    pub full_b : {w graph : ℕ} {p₀ p : List ℕ}
        → Rewritten (under_rule fs ps (side_of sheet rs j false x y)) (link_first sheet x)
        (link_first sheet x + link_count sheet x) w graph n p₀ p
        → ((u : ℕ) → u < n → row_at p₀ w graph u ≡ adj j u)
        → Full fs ps (side_of sheet rs j true y x) w graph p
    full_b A R = record {
      row = λ ne u c d v e.
          let i : InLink sheet y u = record { low = c; high = d } in
          let h = in_link_lt sheet k n P.links y u y_link i in
          let l = layer_of_lem sheet k n P.links y u y_link i in
          let a = sym (allowed_b sheet fs rs ps j u v) ∙ e in
          let o = stretch_out _ _ v (and_l (of x v) _ a) in
          ap (λ (X : Set). X v) (A.others u h (one_link y x u x_link (sym l) (λ g. links_apart (sym g))) ∙ R u h)
          ∙ adjacent_sym sheet fs rs ps k n j u v
          ∙ yet_adjacent v u (record { low = o.0; high = o.1 }) i
          (allows_differ P j b v u ne (and_r (of x v) _ a));
    }

    -- both sides written: the rows under one rule more
    pub rule_built : {w graph : ℕ} {p₀ p p' : List ℕ}
        → Rewritten (under_rule fs ps (side_of sheet rs j false x y)) (link_first sheet x)
        (link_first sheet x + link_count sheet x) w graph n p₀ p
        → Rewritten (under_rule fs ps (side_of sheet rs j true y x)) (link_first sheet y)
        (link_first sheet y + link_count sheet y) w graph n p p'
        → ((u : ℕ) → u < n → row_at p₀ w graph u ≡ adj j u)
        → Built (adj (j + 1)) w graph n p₀ p'
    rule_built {w} {graph} {p₀} {p} {p'} A B R = record {
      rows = λ u h. go u h;
      rest = outside_then A.rest B.rest;
    }
      where
        in_link : (l u : ℕ) → u < n → l ≡ layer_of sheet k u → InLink sheet l u
        in_link l u h e = rw e (layer_in sheet k n P.links u h).1

        go : (u : ℕ) → u < n → row_at p' w graph u ≡ adj (j + 1) u
        go u h =
            bool (eqb x (layer_of sheet k u))
            (λ e. let q = eqb-true x (layer_of sheet k u) e in let i = in_link x u h q in
            B.others u h (one_link x y u y_link q links_apart) ∙ A.rows u i.low i.high
            ∙ ap (under_rule fs ps (side_of sheet rs j false x y) u) (R u h) ∙ ruled_a_lem u h q)
            (λ e. bool (eqb y (layer_of sheet k u))
            (λ f. let q = eqb-true y (layer_of sheet k u) f in let i = in_link y u h q in
            B.rows u i.low i.high
            ∙ ap (under_rule fs ps (side_of sheet rs j true y x) u)
            (A.others u h (one_link y x u x_link q (λ g. links_apart (sym g))) ∙ R u h)
            ∙ ruled_b_lem u h q)
            (λ f.
            let na : x ≡ layer_of sheet k u → ⊥ = λ g. clash (eqb x (layer_of sheet k u)) (eq-eqb _ _ g) e in
            let nb : y ≡ layer_of sheet k u → ⊥ = λ g. clash (eqb y (layer_of sheet k u)) (eq-eqb _ _ g) f in
            let ia : link_first sheet x ≤ u → u < link_first sheet x + link_count sheet x
            → ⊥ = λ d g. na (sym (layer_of_lem sheet k n P.links x u x_link (record { low = d; high = g }))) in
            let ib : link_first sheet y ≤ u → u < link_first sheet y + link_count sheet y
            → ⊥ = λ d g. nb (sym (layer_of_lem sheet k n P.links y u y_link (record { low = d; high = g }))) in
            B.others u h ib ∙ A.others u h ia ∙ R u h ∙ ruled_none u na nb))

-- the rows before any rule, written one after another

-- no row begins behind the last
pub row_last : (u n w : ℕ) → u < n → u * w ≤ (n - 1) * w
row_last u n w h = mul-le-mul_right {m = u} {n = n - 1} w (omega arith)

-- the last row with every vertex
pub every_put : {n w last graph : ℕ} {p q r : List ℕ} → Begins graph w (n - 1) n last
    → Put nothing w last p q → Put (set_at q w last ∪ stretch 0 n) w last q r
    → (set_at r w last ≡ whole n) × Outside graph (graph + n * w) p r
every_put {n} {w} {last} {graph} B P Q =
    let X = stretch_put 0 n P Q in
    (X.here ∙ stretch_whole n, outside_wide graph (graph + n * w) (omega (arith, B.here)) B.inside X.rest)

-- rows built by the code's parts and counts are those of the job's graph
pub built_edge : {s : List ℕ} {place : Place} {len : ℕ} → RowsAsked s place len
    → {fs rs ps p p₁ : List ℕ} {q : ℕ}
    → Built (adjacent s fs rs ps place.k place.n q) place.w place.graph place.n p p₁
    → fs ≡ freq_part s → rs ≡ rule_part s → ps ≡ pair_part s → q ≡ q_of s
    → Built (edge (job_of s)) place.w place.graph place.n p p₁
built_edge {s} {place} P {p = p} {p₁ = p₁} B b c d e =
    let f = P.links in
    let g = P.freqs in
    subst (λ (adj : ℕ → ℕ → Bool). Built adj place.w place.graph place.n p p₁) (cc) B
