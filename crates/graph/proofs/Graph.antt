-- The graph of an accepted job: adjacency goes both ways and never inside a layer, and there are k layers.
use Rattle.std.proofs.Common.{◌≡◌, sym, ap, ◌∙◌, true, false, not, cond, ◌&&◌, List, ℕ, ◌<◌, eqb, ltb, eq-eqb, ne_eqb, ltb-true, lt-ltb}
use Rattle.sets.proofs.Tests.{clash, is_false, iff, and_l, and_r, and_in, not_out, not_in}
use Rattle.sheet.specs.Sheet.{k_of, n_of, q_of, freq_part, rule_part, pair_part}
use Rattle.sheet.specs.Accepted.{Accepted}
use Rattle.rules.specs.Job.{Job, struck, unstruck}
use Rattle.pair_test.specs.Layers.{layer_of}
use Rattle.spacing.specs.Spacing.{zero_or_more}
use Rattle.pair_test.specs.Pairs.{spare}
use Rattle.pair_test.proofs.Laws.{layer_in}
use Rattle.pair_test.proofs.Pairing.{spare_turned}
use Rattle.cliques.specs.Graph.{Clique, Layers}
use Rattle.graph.specs.Graph.{links_differ, adjacent, sheet_edge, link_of, unless_struck, edge, graph_of}

pub differ_in : (sheet : List ℕ) (k n u v : ℕ) → u < n → v < n → (layer_of sheet k u ≡ layer_of sheet k v → ⊥)
    → links_differ sheet k n u v ≡ true
unfolding links_differ
differ_in sheet k n u v a b ne = and_in (and_in (lt-ltb u n a) (lt-ltb v n b)) (not_in (ne_eqb _ _ ne))

module _ (sheet fs rs ps : List ℕ) (k n q : ℕ) where
  -- the parts of the test
  pub adjacent_in_lem : (u v : ℕ) → u < n → v < n → (layer_of sheet k u ≡ layer_of sheet k v → ⊥)
      → zero_or_more (spare sheet fs rs ps q (layer_of sheet k u) (layer_of sheet k v) u v) ≡ true
      → adjacent sheet fs rs ps k n q u v ≡ true
  unfolding adjacent
  adjacent_in_lem u v a b ne j = and_in (differ_in sheet k n u v a b ne) j

  pub record Adjacent (u v : ℕ) : Type 0 where
    pub left : u < n
    pub right : v < n
    pub apart : layer_of sheet k u ≡ layer_of sheet k v → ⊥
    pub allowed : zero_or_more (spare sheet fs rs ps q (layer_of sheet k u) (layer_of sheet k v) u v) ≡ true

  pub adjacent_out : (u v : ℕ) → adjacent sheet fs rs ps k n q u v ≡ true → Adjacent u v
  unfolding adjacent links_differ
  adjacent_out u v h =
      let d = and_l (links_differ sheet k n u v) _ h in
      let a = and_l (ltb u n && ltb v n) _ d in
      record {
        left = ltb-true u n (and_l (ltb u n) _ a);
        right = ltb-true v n (and_r (ltb u n) _ a);
        apart = λ e. clash (eqb (layer_of sheet k u) (layer_of sheet k v)) (eq-eqb _ _ e)
            (not_out _ (and_r (ltb u n && ltb v n) _ d));
        allowed = and_r (links_differ sheet k n u v) _ h;
      }

  turned : (u v : ℕ) → adjacent sheet fs rs ps k n q u v ≡ true → adjacent sheet fs rs ps k n q v u ≡ true
  turned u v h = let r = adjacent_out u v h in
      adjacent_in_lem v u r.right r.left (λ e. r.apart (sym e))
      (ap zero_or_more (sym (spare_turned sheet fs rs ps q _ _ u v r.apart)) ∙ r.allowed)

  pub adjacent_sym : (u v : ℕ) → adjacent sheet fs rs ps k n q u v ≡ adjacent sheet fs rs ps k n q v u
  adjacent_sym u v = iff _ _ (turned u v) (turned v u)

  -- a number past the vertices is adjacent to none
  pub adjacent_past : (u v : ℕ) → (v < n → ⊥) → adjacent sheet fs rs ps k n q u v ≡ false
  adjacent_past u v o = is_false _ (λ h. o (adjacent_out u v h).right)

-- a job's graph, whatever its classes
module _ (job : Job) where
  abbrev s : List ℕ
  s = job.sheet

  pub unstruck_out : (v : ℕ) → unstruck job v ≡ true → (struck job v ≡ false) × (v < n_of s)
  unfolding unstruck
  unstruck_out v h = (
    not_out (struck job v) (and_l (not (struck job v)) _ h),
    ltb-true v (n_of s) (and_r (not (struck job v)) _ h),
  )

  pub unstruck_in : (v : ℕ) → struck job v ≡ false → v < n_of s → unstruck job v ≡ true
  unfolding unstruck
  unstruck_in v e l = and_in (not_in e) (lt-ltb v (n_of s) l)

  pub edge_in : (u v : ℕ) → struck job u ≡ false → struck job v ≡ false → sheet_edge s u v ≡ true → edge job u v ≡ true
  edge_in u v a b h = and_in (and_in (not_in a) (not_in b)) h

  -- two adjacent vertices: neither is struck, and the sheet joins them
  pub record Joined (u v : ℕ) : Type 0 where
    pub left : struck job u ≡ false
    pub right : struck job v ≡ false
    pub sheet : Adjacent s (freq_part s) (rule_part s) (pair_part s) (k_of s) (n_of s) (q_of s) u v
    pub there : sheet_edge s u v ≡ true

  pub edge_out : (u v : ℕ) → edge job u v ≡ true → Joined u v
  edge_out u v h =
      let a = and_l (not (struck job u) && not (struck job v)) _ h in
      let e = and_r (not (struck job u) && not (struck job v)) _ h in
      record {
        left = not_out (struck job u) (and_l (not (struck job u)) _ a);
        right = not_out (struck job v) (and_r (not (struck job u)) _ a);
        sheet = adjacent_out s (freq_part s) (rule_part s) (pair_part s) (k_of s) (n_of s) (q_of s) u v e;
        there = e;
      }

  edge_turned : (u v : ℕ) → edge job u v ≡ true → edge job v u ≡ true
  edge_turned u v h = let r = edge_out u v h in
      edge_in v u r.right r.left
      (sym (adjacent_sym s (freq_part s) (rule_part s) (pair_part s) (k_of s) (n_of s) (q_of s) u v) ∙ r.there)

  pub edge_sym : (u v : ℕ) → edge job u v ≡ edge job v u
  edge_sym u v = iff _ _ (edge_turned u v) (edge_turned v u)

  -- the class of a vertex that is left is its own
  pub left_class : (cls : ℕ → ℕ) (v : ℕ) → struck job v ≡ false → unless_struck job cls v ≡ cls v
  left_class cls v e = ap (λ b. cond b (k_of s) (cls v)) e

  -- so are layers that a struck vertex is in none of
  pub layers_left : (cls lay : ℕ → ℕ) → Layers (graph_of job cls) lay (unstruck job)
      → Layers (graph_of job cls) (unless_struck job lay) (unstruck job)
  layers_left cls lay law = record {
    sy = law.sy;
    apart = λ u v h e. let r = edge_out u v h in
        law.apart u v h (sym (left_class lay u r.left) ∙ e ∙ left_class lay v r.right);
    few = λ v l h. rw (left_class lay v (unstruck_out v h).0) (law.few v l h);
  }

  -- a clique of vertices that are left, in classes that a struck vertex is in none of, and the other way round
  pub left_clique : (cls : ℕ → ℕ) {c : ℕ → ℕ} → Clique (graph_of job cls) 0 (unstruck job) c
      → Clique (graph_of job (unless_struck job cls)) 0 (unstruck job) c
  left_clique cls p = record {
    at = λ j a b. let x = p.at j a b in
        record { lt = x.lt; live = x.live; cl = left_class cls _ (unstruck_out _ x.live).0 ∙ x.cl };
    joined = p.joined;
  }

  pub clique_left : (cls : ℕ → ℕ) {c : ℕ → ℕ} → Clique (graph_of job (unless_struck job cls)) 0 (unstruck job) c
      → Clique (graph_of job cls) 0 (unstruck job) c
  clique_left cls p = record {
    at = λ j a b. let x = p.at j a b in
        record { lt = x.lt; live = x.live; cl = sym (left_class cls _ (unstruck_out _ x.live).0) ∙ x.cl };
    joined = p.joined;
  }

  -- an accepted job's links are layers
  pub links_of : Accepted s → (cls : ℕ → ℕ) → Layers (graph_of job cls) (link_of job) (unstruck job)
  links_of A cls = record {
    sy = edge_sym;
    apart = λ u v h. (edge_out u v h).sheet.apart;
    few = λ v l _. (layer_in s (k_of s) (n_of s) A.links v l).0;
  }
