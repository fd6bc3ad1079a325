-- Demand 2: the k-cliques of the graph and the assignments that keep every rule match one to one, and the check says
-- yes to exactly these.
use Rattle.std.proofs.Common.{◌≡◌, refl, sym, ap, ap₂, subst, ◌∙◌, Bool, true, false, not, ◌&&◌, ◌||◌, List, ℕ, zero, suc, ◌+◌, ◌-◌, ◌≤◌, ◌<◌, arith, eqb, ltb, leb, length, eqb-true, eq-eqb, ne_eqb, lt-ltb, ltb-true, leb-true, le-leb}
use native.Mathlib.Decide.{dec_lt}
use borrow.Author.Tests.{lt-leb}
use Rattle.sets.specs.Below.{all, any, first}
use Rattle.sets.specs.Sets.{whole}
use Rattle.sets.proofs.Tests.{clash, bool, is_false, and_l, and_r, and_in, or_l, or_r, not_in, not_out}
use Rattle.sets.proofs.Below.{all_in, all_out, all_same, any_in, first_lt, first_is, first_found}
use Rattle.channels.specs.Channels.{channels_ok, on_air}
use Rattle.sheet_rows.specs.Rows.{link_first, link_count, freq}
use Rattle.rule_sections.specs.Rules.{most_khz}
use Rattle.sheet.specs.Sheet.{k_of, n_of, q_of, t_of, freq_part, rule_part, pair_part, freq_ok, link_freqs_ok, freqs_ok}
use Rattle.sheet.specs.Refusal.{passing, refusal}
use Rattle.sheet.proofs.Accepted.{accepted, refusal_most}
use Rattle.rules.specs.Job.{Job, job_of, struck, unstruck}
use Rattle.pair_test.specs.Layers.{layer_of, InLink}
use Rattle.spacing.specs.Spacing.{zero_or_more}
use Rattle.pair_test.specs.Pairs.{spare}
use Rattle.pair_test.specs.Parts.{Parts}
use Rattle.rules.specs.Plans.{place_of, has_freq, vertex_of, in_lists, spare_taken, pair_kept, link_kept, keeps, cells_of}
use Rattle.rules.specs.Plans.{keeps_sheet, clear, keeps_job, yes_no, checked}
use Rattle.pair_test.proofs.Laws.{layer_of_lem, layer_in, in_link_lt, parts_of}
use Rattle.rules.proofs.Laws.{vertex_in_lem, listed_at}
use Rattle.pair_test.proofs.Pairing.{spare_turned}
use Rattle.cliques.specs.Graph.{Graph, Clique, Layers}
use Rattle.cliques.specs.Listing.{by_layer}
use Rattle.cliques.proofs.Listing.{clique_any, by_layer_clique, by_layer_at}
use Rattle.graph.specs.Graph.{adjacent, link_of, graph_of}
use Rattle.graph.specs.Matches.{KeepsEveryRule, IsClique, vertices, Matches, MayCheck, Demand2}
use Rattle.graph.proofs.Graph.{adjacent_in_lem, adjacent_out, unstruck_in, unstruck_out, edge_in, edge_out, links_of}

module _ {sheet fs rs ps : List ℕ} {k n q t : ℕ} (P : Parts sheet fs rs ps k n q t) where
  -- the frequencies of a link rise
  next_rises : (l i : ℕ) → l < k → suc i < link_count sheet l
      → freq fs (link_first sheet l + i) < freq fs (link_first sheet l + suc i)
  unfolding freqs_ok link_freqs_ok freq_ok
  next_rises l i h b =
      let x = freq fs (link_first sheet l + suc i) in
      let g = all_out (link_count sheet l) (freq_ok fs (link_first sheet l))
      (all_out k (link_freqs_ok sheet fs) P.freqs l h) (suc i) b in
      let r = and_r (ltb 0 x && leb x most_khz) _ g in
      let e : link_first sheet l + suc i - 1 ≡ link_first sheet l + i = omega arith in
      ltb-true (freq fs (link_first sheet l + i)) (freq fs (link_first sheet l + suc i))
      (rw (e, ne_eqb (suc i) 0 (λ z. omega arith)) at r)

  rises : (l i d : ℕ) → l < k → i + suc d < link_count sheet l
      → freq fs (link_first sheet l + i) < freq fs (link_first sheet l + (i + suc d))
  rises l i zero h b = let e : i + 1 ≡ suc i = omega arith in rw e (next_rises l i h (omega arith))
  rises l i (suc d) h b =
      let r = rises l i d h (omega arith) in
      let s = next_rises l (i + suc d) h (omega arith) in
      let e : i + suc (suc d) ≡ suc (i + suc d) = omega arith in
      rw e (omega arith)

  place_at : (l i : ℕ) → l < k → i < link_count sheet l → place_of fs (link_first sheet l) (link_count sheet l)
      (freq fs (link_first sheet l + i)) ≡ i
  unfolding place_of
  place_at l i h b = first_found (link_count sheet l) i here b (is_false (any i here) (λ u.
      let j = first i here in
      let g = first_lt i here u in
      let r = rises l j (i - suc j) h (omega arith) in
      let e : j + suc (i - suc j) ≡ i = omega arith in
      let s = rw e at r in
      let z = eqb-true (freq fs (link_first sheet l + j)) (freq fs (link_first sheet l + i)) (first_is i here u) in
      omega arith))
      (eq-eqb (freq fs (link_first sheet l + i)) (freq fs (link_first sheet l + i)) refl)
    where
      here : ℕ → Bool
      here m = eqb (freq fs (link_first sheet l + m)) (freq fs (link_first sheet l + i))

  -- the vertex of a vertex's frequency is that vertex
  vertex_back : (l v : ℕ) → l < k → InLink sheet l v → (vertex_of sheet fs l (freq fs v) ≡ v)
      × (has_freq sheet fs l (freq fs v) ≡ true)
  unfolding vertex_of has_freq
  vertex_back l v h i =
      let d = v - link_first sheet l in
      let a = i.low in
      let b = i.high in
      let e : link_first sheet l + d ≡ v = omega arith in
      let p : place_of fs (link_first sheet l) (link_count sheet l) (freq fs v) ≡ d =
      rw e at (place_at l d h (omega arith)) in
      (omega arith, any_in (link_count sheet l) _ d (omega arith) (rw e (eq-eqb (freq fs v) (freq fs v) refl)))

  -- the frequency of a frequency's vertex is that frequency
  freq_back : (l x : ℕ) → has_freq sheet fs l x ≡ true → freq fs (vertex_of sheet fs l x) ≡ x
  unfolding vertex_of place_of has_freq
  freq_back l x h = eqb-true _ x (first_is (link_count sheet l) (λ i. eqb (freq fs (link_first sheet l + i)) x) h)

  abbrev G : Graph
  G = record { n = n; k = k; cls = layer_of sheet k; adj = adjacent sheet fs rs ps k n q }

  -- a clique listed by layer: its assignment keeps every rule, and its vertices are those of the assignment
  module _ (c : ℕ → ℕ) (C : Clique G 0 (whole n) c) where
    in_link : (l : ℕ) → l < k → InLink sheet l (c l)
    in_link l h = let a = C.at l (omega arith) h in let i = (layer_in sheet k n P.links (c l) a.lt).1 in
        rw a.cl at i

    pub there_back : (l : ℕ) → l < k → vertex_of sheet fs l (freq fs (c l)) ≡ c l
    there_back l h = (vertex_back l (c l) h (in_link l h)).0

    clique_pair : (a b : ℕ) → a < k → b < k → (a ≡ b → ⊥) → pair_kept sheet fs rs ps q (λ l. freq fs (c l)) a b ≡ true
    unfolding pair_kept spare_taken
    clique_pair a b x y ne =
        let g = (adjacent_out sheet fs rs ps k n q (c a) (c b)
        (C.joined a b (omega arith) x (omega arith) y ne)).allowed in
        rw (there_back a x, there_back b y) (rw ((C.at a (omega arith) x).cl, (C.at b (omega arith) y).cl) at g)

    pub clique_keeps : keeps sheet fs rs ps k q (λ l. freq fs (c l)) ≡ true
    unfolding keeps in_lists link_kept
    clique_keeps = and_in (all_in k _ (λ l h. (vertex_back l (c l) h (in_link l h)).1))
        (all_in k _ (λ a x. all_in k _ (λ b y. bool (leb b a)
        (λ e. or_l (pair_kept sheet fs rs ps q (λ l. freq fs (c l)) a b) e)
        (λ e. or_r (leb b a) (clique_pair a b x y (λ i. clash (leb b a) (le-leb b a (omega arith)) e))))))

  -- an assignment that keeps every rule: its vertices are a clique listed by layer, and its frequencies are those of
  -- the vertices
  module _ (f : ℕ → ℕ) (K : keeps sheet fs rs ps k q f ≡ true) where
    abbrev vs : ℕ → ℕ
    vs l = vertex_of sheet fs l (f l)

    kept_list : (l : ℕ) → l < k → has_freq sheet fs l (f l) ≡ true
    unfolding keeps
    kept_list l h = listed_at sheet fs k f l (and_l (all k (in_lists sheet fs f)) _ K) h

    kept_pair : (a b : ℕ) → a < b → b < k → zero_or_more (spare sheet fs rs ps q a b (vs a) (vs b)) ≡ true
    unfolding keeps link_kept pair_kept spare_taken
    kept_pair a b l h =
        let x = all_out k (link_kept sheet fs rs ps k q f) (and_r (all k (in_lists sheet fs f)) _ K) a (omega arith) in
        let y = all_out k (λ b. leb b a || pair_kept sheet fs rs ps q f a b) x b h in
        rw (lt-leb b a l) at y

    pub back_there : (l : ℕ) → l < k → freq fs (vs l) ≡ f l
    back_there l h = freq_back l (f l) (kept_list l h)

    kept_layer : (l : ℕ) → l < k → layer_of sheet k (vs l) ≡ l
    kept_layer l h = layer_of_lem sheet k n P.links l (vs l) h (vertex_in_lem sheet fs l (f l) (kept_list l h))

    kept_lt : (l : ℕ) → l < k → vs l < n
    kept_lt l h = in_link_lt sheet k n P.links l (vs l) h (vertex_in_lem sheet fs l (f l) (kept_list l h))

    kept_allowed : (i j : ℕ) → i < k → j < k → (i ≡ j → ⊥) → Dec (i < j)
        → zero_or_more (spare sheet fs rs ps q i j (vs i) (vs j)) ≡ true
    kept_allowed i j h g ne (yes l) = kept_pair i j l g
    kept_allowed i j h g ne (no l) = ap zero_or_more (spare_turned sheet fs rs ps q i j (vs i) (vs j) ne)
        ∙ kept_pair j i (omega (arith, ne)) h

    pub keeps_clique : Clique G 0 (whole n) vs
    unfolding whole
    keeps_clique = record {
      at = λ l a h. record { lt = kept_lt l h; live = lt-ltb (vs l) n (kept_lt l h); cl = kept_layer l h };
      joined = λ i j a h b g ne. adjacent_in_lem sheet fs rs ps k n q (vs i) (vs j) (kept_lt i h) (kept_lt j g)
          (λ e. ne (sym (kept_layer i h) ∙ e ∙ kept_layer j g))
          (rw (kept_layer i h, kept_layer j g) (kept_allowed i j h g ne (dec_lt i j)));
    }

  -- only the first k entries of an assignment are read
  pub keeps_same : (f g : ℕ → ℕ) → ((l : ℕ) → l < k → f l ≡ g l)
      → keeps sheet fs rs ps k q f ≡ keeps sheet fs rs ps k q g
  unfolding keeps in_lists link_kept pair_kept spare_taken
  keeps_same f g h = ap₂ (λ a b. a && b)
      (all_same k _ _ (λ l i. ap (has_freq sheet fs l) (h l i)))
      (all_same k _ _ (λ a i. all_same k _ _ (λ b l. rw (h a i, h b l))))

module _ (job : Job) (ok : refusal job.sheet ≡ 0) where
  abbrev s : List ℕ
  s = job.sheet

  abbrev by_link : Graph
  by_link = graph_of job (link_of job)

  P : Parts s (freq_part s) (rule_part s) (pair_part s) (k_of s) (n_of s) (q_of s) (t_of s)
  P = parts_of s (accepted s ok)

  -- a clique listed by link is one of the sheet, and no channel on air covers its frequencies
  module _ {c : ℕ → ℕ} (p : Clique (graph_of job (link_of job)) 0 (unstruck job) c) where
    on_sheet : Clique (graph_of (job_of s) (link_of job)) 0 (whole (n_of s)) c
    unfolding whole
    on_sheet = record {
      at = λ j a b. let x = p.at j a b in record { lt = x.lt; live = lt-ltb (c j) (n_of s) x.lt; cl = x.cl };
      joined = λ i j a h b g ne. (edge_out job (c i) (c j) (p.joined i j a h b g ne)).there;
    }

    all_clear : all (k_of s) (clear job.channels (λ l. freq (freq_part s) (c l))) ≡ true
    unfolding clear
    all_clear = all_in (k_of s) _ (λ l h. not_in (unstruck_out job (c l) (p.at l (omega arith) h).live).0)

  module _ (f : ℕ → ℕ) (K : KeepsEveryRule job f) where
    kept_sheet : keeps s (freq_part s) (rule_part s) (pair_part s) (k_of s) (q_of s) f ≡ true
    unfolding keeps_job keeps_sheet
    kept_sheet = and_r (all (k_of s) (clear job.channels f)) _ K

    -- the vertex of a frequency that no channel on air covers is not struck
    kept_clear : (l : ℕ) → l < k_of s → struck job (vertices job f l) ≡ false
    unfolding keeps_job clear
    kept_clear l h = ap (on_air job.channels) (back_there P f kept_sheet l h)
        ∙ not_out (on_air job.channels (f l))
        (all_out (k_of s) (clear job.channels f) (and_l (all (k_of s) (clear job.channels f)) _ K) l h)

    -- the vertices of a rule-keeping assignment, listed by link
    pub vertices_clique : Clique (graph_of job (link_of job)) 0 (unstruck job) (vertices job f)
    vertices_clique = let p = keeps_clique P f kept_sheet in record {
      at = λ j a b. let x = p.at j a b in
          record { lt = x.lt; live = unstruck_in job (vertices job f j) (kept_clear j b) x.lt; cl = x.cl };
      joined = λ i j a h b g ne. edge_in job (vertices job f i) (vertices job f j) (kept_clear i h) (kept_clear j g)
          (p.joined i j a h b g ne);
    }

  any_order : (c : ℕ → ℕ) → Clique (graph_of job (link_of job)) 0 (unstruck job) c → IsClique job c
  any_order c p = clique_any by_link (unstruck job) c p

  -- the vertices of a clique's assignment are the clique's
  pub vertices_same : (c : ℕ → ℕ) → Clique (graph_of job (link_of job)) 0 (unstruck job) c → (l : ℕ) → l < k_of s
      → vertices job (λ l. freq (freq_part s) (c l)) l ≡ c l
  vertices_same c p l h = there_back P c (on_sheet p) l h

  -- the vertex of a vertex's frequency is that vertex
  pub vertex_same : (l v : ℕ) → l < k_of s → v < n_of s → link_of job v ≡ l
      → vertex_of s (freq_part s) l (freq (freq_part s) v) ≡ v
  vertex_same l v h a e = (vertex_back P l v h (rw e at (layer_in s (k_of s) (n_of s) P.links v a).1)).0

  -- the assignment of a clique listed by link keeps every rule
  pub clique_rules : (c : ℕ → ℕ) → Clique (graph_of job (link_of job)) 0 (unstruck job) c
      → KeepsEveryRule job (λ l. freq (freq_part s) (c l))
  unfolding keeps_job keeps_sheet
  clique_rules c p = and_in (all_clear p) (clique_keeps P c (on_sheet p))

  -- only the first k entries of an assignment are read
  pub keeps_same_job : (f g : ℕ → ℕ) → ((l : ℕ) → l < k_of s → f l ≡ g l) → keeps_job job f ≡ keeps_job job g
  unfolding keeps_job keeps_sheet clear
  keeps_same_job f g h = ap₂ (λ a b. a && b)
      (all_same (k_of s) _ _ (λ l i. ap (λ x. not (on_air job.channels x)) (h l i))) (keeps_same P f g h)

  pub keeps_first_k : (f g : ℕ → ℕ) → ((l : ℕ) → l < k_of s → f l ≡ g l) → KeepsEveryRule job f → KeepsEveryRule job g
  keeps_first_k f g h K = sym (keeps_same_job f g h) ∙ K

  pub matches : Matches job
  matches = record {
    there = λ c p. clique_rules (by c) (listed c p);
    back = λ f K. any_order (vertices job f) (vertices_clique f K);
    there_back = λ c p j l.
        let m = law.few (c j) (p.lt j l) (p.live j l) in
        there_back P (by c) (on_sheet (listed c p)) (link_of job (c j)) m
        ∙ by_layer_at by_link (link_of job) (unstruck job) law c p j l;
    back_there = λ f K l h.
        let p = any_order (vertices job f) (vertices_clique f K) in
        let e = by_layer_at by_link (link_of job) (unstruck job) law (vertices job f) p l h in
        let q = ((vertices_clique f K).at l (omega arith) h).cl in
        ap (freq (freq_part s)) (subst (λ m. by_layer (k_of s) (link_of job) (vertices job f) m ≡ vertices job f l) q e)
        ∙ back_there P f (kept_sheet f K) l h;
  }
    where
      law : Layers (graph_of job (link_of job)) (link_of job) (unstruck job)
      law = links_of job (accepted s ok) (link_of job)

      by : (ℕ → ℕ) → ℕ → ℕ
      by c = by_layer (k_of s) (link_of job) c

      listed : (c : ℕ → ℕ) → IsClique job c → Clique (graph_of job (link_of job)) 0 (unstruck job)
          (by_layer (k_of s) (link_of job) c)
      listed c p = by_layer_clique by_link (link_of job) (unstruck job) law c p

-- the check

yes_no_lem : (b : Bool) → yes_no b ≡ 100 → b ≡ true
yes_no_lem true h = refl
yes_no_lem false h = absurd (omega arith)

check_only : (a b c x : Bool) (r : ℕ) → r ≤ 16
    → (passing a r λ _. passing b 10 λ _. passing c 17 λ _. yes_no x) ≡ 100
    → (a ≡ true) × (b ≡ true) × (c ≡ true) × (x ≡ true)
check_only true true true x r l h = (refl, refl, refl, yes_no_lem x h)
check_only true true false x r l h = absurd (omega arith)
check_only true false c x r l h = absurd (omega arith)
check_only false b c x r l h = absurd (omega arith)

module _ (job : Job) (cells : List ℕ) where
  abbrev sheet : List ℕ
  sheet = job.sheet

  says : checked job cells ≡ 100 → MayCheck job cells × KeepsEveryRule job (cells_of cells)
  unfolding checked
  says h =
      let a = eqb (refusal sheet) 0 in
      let b = leb (k_of sheet) (length cells) in
      let c = channels_ok job.channels in
      let o = check_only a b c (keeps_job job (cells_of cells)) (refusal sheet) (refusal_most sheet) h in (
        record {
          sheet = eqb-true (refusal sheet) 0 o.0;
          enough = leb-true (k_of sheet) (length cells) o.1;
          channels = o.2;
        },
        o.3,
      )

  told : MayCheck job cells → KeepsEveryRule job (cells_of cells) → checked job cells ≡ 100
  unfolding checked
  told m k = rw (m.sheet, le-leb (k_of sheet) (length cells) m.enough, m.channels, k) refl

pub demand2 : Demand2
demand2 = record { matches = matches; check = λ job cells. record { only = says job cells; all = told job cells } }
