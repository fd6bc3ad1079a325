-- From the rows and masks that are written to the graph that the words hold.
use Rattle.std.proofs.Common.{◌≡◌, refl, sym, ap, subst, ◌∙◌, Bool, true, false, not, cond, ◌&&◌, List, ◌⊎◌, inl, inr, ℕ, ◌+◌, ◌*◌, ◌≤◌, ◌<◌, arith, eqb, ltb, length, eq-eqb, ne_eqb, lt-ltb}
use Rattle.sets.specs.Sets.{Set, ◌∩◌}
use Rattle.sets.proofs.Tests.{bool, clash, iff, and_l, and_in, and_r, and_false, not_out, or_case}
use Rattle.sets.proofs.Lists.{get_d_tabulate}
use Rattle.rows.specs.Rows.{set_at, row_at, Outside}
use Rattle.rows.proofs.Rows.{above}
use Rattle.cliques.specs.Words.{placed, Node}
use Rattle.cliques.specs.declared.Place.{Place}
use Rattle.sheet.specs.Sheet.{k_of, n_of}
use Rattle.sheet.specs.Accepted.{Accepted}
use Rattle.rules.specs.Job.{Job, struck, unstruck}
use Rattle.graph.specs.Graph.{link_of, unless_struck, layer, edge, graph_of}
use Rattle.graph.specs.Rows.{Built}
use Rattle.partition.specs.Partition.{class_of, layers_of, built, is_partition, Partition}
use Rattle.partition.specs.Words.{Rows, members, Masks}
use Rattle.partition.specs.Choice.{class_list}
use Rattle.partition.proofs.Partition.{partition_out}
use Rattle.partition.proofs.Choice.{class_list_is}
use Rattle.setting.specs.Setting.{Setting}
use Rattle.work_words.specs.Layout.{LaidOut}
use Rattle.work_words.specs.Classes.{list_ok, layer_list, classes_of}
use Rattle.work_words.specs.Filled.{Placed, RowsPut, ListChecked, ListBuilt, MasksCut, Filled}
use Rattle.graph.proofs.Graph.{unstruck_out, edge_sym, edge_out, left_class}
use Rattle.work_words.proofs.Classes.{link_small, links_apart, classes_ok}

-- rows of the graph and masks from `at` on that were left alone
rows_still : {lo hi : ℕ} {p p' : List ℕ} → Outside lo hi p p' → (w at m : ℕ) → hi ≤ at → (S : ℕ → Set)
    → ((u : ℕ) → u < m → row_at p w at u ≡ S u) → (u : ℕ) → u < m → row_at p' w at u ≡ S u
rows_still x w at m h S R u l = above x w (at + u * w) (omega arith) ∙ R u l

-- the rows, then the list of the layers and their masks
pub rows_put : {job : Job} {place : Place} {layers len list : ℕ} → Placed job place layers len list
    → {p p₁ p₂ cls : List ℕ}
    → Built (edge job) place.w place.graph place.n p p₁ → cls ≡ layer_list job
    → Masks place.n place.k cls place.w layers p₁ p₂ → RowsPut job place layers p₂ cls
rows_put {job} {place} P B e M = record {
  rows = rows_still M.rest place.w place.graph place.n (let a = P.laid.after_layers in omega arith)
      (edge job) B.rows;
  masks = λ c l. M.mask c l ∙ ap (λ x. members place.n x c) e;
  list = e;
}

-- a place by the numbers of its sheet
place_is : (place : Place) (n k : ℕ) → place.n ≡ n → place.k ≡ k
    → place ≡ placed place.w place.masks place.graph n k
place_is place n k e f =
    ap (λ x. placed place.w place.masks place.graph x place.k) e
    ∙ ap (placed place.w place.masks place.graph n) f

module _ (job : Job) (A : Accepted job.sheet) where
  abbrev s : List ℕ
  s = job.sheet

  -- the rows hold the adjacency
  rows_hold : (w graph : ℕ) (p : List ℕ) → ((u : ℕ) → u < n_of job.sheet → row_at p w graph u ≡ edge job u)
      → Rows (edge job) w graph (n_of job.sheet) p
  rows_hold w graph p R = record {
    edge = λ u l v. ap (λ (X : Set). X v) (R u l) ∙ iff _ _
        (λ h. and_in (lt-ltb v (n_of s) (edge_out job u v h).sheet.right) h)
        (λ h. and_r (ltb v (n_of s)) (edge job u v) h);
  }

  -- a vertex of class c that is left
  in_class_lem : (cls : ℕ → ℕ) (c v : ℕ) → c < k_of job.sheet → v < n_of job.sheet
      → (eqb (cls v) c && unstruck job v) ≡ eqb (unless_struck job cls v) c
  unfolding unstruck
  in_class_lem cls c v a b = bool (struck job v)
      (λ e. rw e (and_false (eqb (cls v) c) false refl ∙ sym (ne_eqb (k_of s) c (λ i. omega arith))))
      (λ e. rw (e, lt-ltb v (n_of s) b) (iff _ _ (and_l (eqb (cls v) c) true) (λ h. and_in h refl)))

  module _ (w masks graph : ℕ) (p : List ℕ) (R : (u : ℕ) → u < n_of job.sheet → row_at p w graph u ≡ edge job u)
      (root : set_at p w 0 ≡ unstruck job) where
    -- rows, and masks that hold what is left of a partition, hold the graph in its classes
    node : (cls : ℕ → ℕ)
        → ((c v : ℕ) → c < k_of job.sheet → v < n_of job.sheet
        → row_at p w masks c v ≡ (eqb (cls v) c && unstruck job v))
        → ((v : ℕ) → v < n_of job.sheet → cls v < k_of job.sheet)
        → ((u v : ℕ) → u < n_of job.sheet → v < n_of job.sheet → edge job u v ≡ true → cls u ≡ cls v → ⊥)
        → Node (graph_of job (unless_struck job cls)) 0 (placed w masks graph (n_of job.sheet) (k_of job.sheet)) p
    node cls M f a = record {
      held = record {
        size = refl;
        classes = refl;
        mask = λ c v l m. M c v l m ∙ in_class_lem cls c v l m;
        edge = λ u v l m. ap (λ (X : Set). X v) (R u l);
        sy = λ u v l m. edge_sym job u v;
        apart = λ u v l m h e. let r = edge_out job u v h in
            a u v l m h (sym (left_class job cls u r.left) ∙ e ∙ left_class job cls v r.right);
      };
      live = λ v h.
          let q = unstruck_out job v (sym (ap (λ (X : Set). X v) root) ∙ h) in
          (q.1, omega arith, rw (left_class job cls v q.0) (f v q.1));
    }

    mask_at : (l : List ℕ) → ((c : ℕ) → c < k_of job.sheet
        → row_at p w masks c ≡ members (n_of job.sheet) l c ∩ unstruck job)
        → (c v : ℕ) → c < k_of job.sheet → v < n_of job.sheet
        → row_at p w masks c v ≡ (eqb (class_of l v) c && unstruck job v)
    unfolding members ◌∩◌
    mask_at l M c v a b = ap (λ (X : Set). X v) (M c a)
        ∙ ap (λ x. (x && eqb (class_of l v) c) && unstruck job v) (lt-ltb v (n_of s) b)

    by_class_is : (l : List ℕ) → Partition (n_of job.sheet) (k_of job.sheet) (edge job) l
        → ((c : ℕ) → c < k_of job.sheet → row_at p w masks c ≡ members (n_of job.sheet) l c ∩ unstruck job)
        → Node (graph_of job (unless_struck job (class_of l))) 0
        (placed w masks graph (n_of job.sheet) (k_of job.sheet)) p
    by_class_is l part M = node (class_of l) (mask_at l M) part.below
        (λ u v a b h e. clash (edge job u v) h (part.apart u v a b e))

    by_layer_is : ((c : ℕ) → c < k_of job.sheet
        → row_at p w masks c ≡ members (n_of job.sheet) (layer_list job) c ∩ unstruck job)
        → Node (graph_of job (layer job)) 0 (placed w masks graph (n_of job.sheet) (k_of job.sheet)) p
    unfolding layers_of
    by_layer_is M = node (link_of job)
        (λ c v a b. mask_at (layer_list job) M c v a b
        ∙ ap (λ x. eqb x c && unstruck job v) (get_d_tabulate (n_of s) (link_of job) v 0 b))
        (link_small job A) (λ u v a b. links_apart job A u v)

  module _ (x : Setting) (w masks graph layers len : ℕ) (O : LaidOut (placed w masks graph (n_of s) (k_of s)) layers len)
      {p p₁ cls : List ℕ} {r : Bool} (R : RowsPut job (placed w masks graph (n_of s) (k_of s)) layers p cls)
      (C : ListChecked x.choice (placed w masks graph (n_of s) (k_of s)) x.callers p p₁ r) where
    list_test : r ≡ list_ok job x
    unfolding list_ok
    list_test = C.answer (edge job) (rows_hold w graph p R.rows)

    -- a caller's list that may be used has n entries
    long : r ≡ true → x.choice ≡ 2 → length x.callers ≡ n_of s
    long e two = go (or_case (not (eqb x.choice 2)) _ (unfold list_ok in sym list_test ∙ e))
      where
        go : (not (eqb x.choice 2) ≡ true) ⊎ (is_partition (n_of s) (k_of s) (edge job) x.callers ≡ true)
            → length x.callers ≡ n_of s
        go (inl y) = clash (eqb x.choice 2) (eq-eqb x.choice 2 two) (not_out (eqb x.choice 2) y)
        go (inr y) = (partition_out (n_of s) (k_of s) (edge job) x.callers y).size

    -- the caller's list is no partition
    refused : r ≡ false → Filled job x (placed w masks graph (n_of s) (k_of s)) layers p₁ false
    refused e = record {
      list = sym e ∙ list_test;
      by_class_is = λ h. clash false h refl;
      by_layer_is = λ h. clash false h refl;
      root = λ h. clash false h refl;
    }

    -- the words are filled
    module _ {p₂ p₃ p₄ cls' : List ℕ} (small : x.choice ≤ 2) (e : r ≡ true)
        (B : ListBuilt x.choice (placed w masks graph (n_of s) (k_of s)) p₁ p₂ cls cls')
        (M : Masks (n_of s) (k_of s) (class_list x.choice x.callers cls' (n_of s)) w masks p₂ p₃)
        (T : MasksCut job (placed w masks graph (n_of s) (k_of s)) layers p₃ p₄) where
      bounds : (masks + k_of s * w ≤ layers) × (layers ≤ graph) × (n_of s + n_of s + w ≤ masks) × (w ≤ masks)
      bounds = let a = O.after_masks in let b = O.after_layers in let c =
          O.front in (omega arith, omega arith, c, omega arith)

      -- what stands from `layers` on is left alone, and the masks from the root row
      after_list : (at m : ℕ) → layers ≤ at → (S : ℕ → Set) → ((u : ℕ) → u < m → row_at p w at u ≡ S u) → (u : ℕ) → u < m
          → row_at p₁ w at u ≡ S u
      after_list at m h S X = rows_still C.rest w at m (let b = bounds in omega arith) S X

      to_masks : (at m : ℕ) → layers ≤ at → (S : ℕ → Set) → ((u : ℕ) → u < m → row_at p w at u ≡ S u) → (u : ℕ) → u < m
          → row_at p₃ w at u ≡ S u
      to_masks at m h S X =
          let b = bounds in
          rows_still M.rest w at m (omega arith) S
          (rows_still B.rest w at m (omega arith) S (after_list at m h S X))

      rows_end : (u : ℕ) → u < n_of s → row_at p₄ w graph u ≡ edge job u
      rows_end u l = T.rows u l ∙ to_masks graph (n_of s) bounds.1 (edge job) R.rows u l

      layers_end : (c : ℕ) → c < k_of s → row_at p₄ w layers c ≡ members (n_of s) (layer_list job) c ∩ unstruck job
      layers_end c l = T.layers_cut c l ∙ ap (λ (X : Set). X ∩ unstruck job)
          (to_masks layers (k_of s) (omega arith) (members (n_of s) (layer_list job)) R.masks c l)

      built_is : cls' ≡ cond (eqb x.choice 1) (built (n_of s) (k_of s) (edge job) (layer_list job))
          (layer_list job)
      built_is = B.classes (edge job)
          (rows_hold w graph p₁ (after_list graph (n_of s) bounds.1 (edge job) R.rows))
          ∙ ap (λ y. cond (eqb x.choice 1) (built (n_of s) (k_of s) (edge job) y) y) R.list

      list_there : class_list x.choice x.callers cls' (n_of s) ≡ classes_of job x
      unfolding classes_of
      list_there = class_list_is (n_of s) (k_of s) (edge job) x.choice (layer_list job) x.callers cls'
          built_is

      masks_end : (c : ℕ) → c < k_of s → row_at p₄ w masks c ≡ members (n_of s) (classes_of job x) c ∩ unstruck job
      masks_end c l = T.classes c l ∙ ap (λ (X : Set). X ∩ unstruck job)
          (M.mask c l ∙ ap (λ y. members (n_of s) y c) list_there)

      filled : Filled job x (placed w masks graph (n_of s) (k_of s)) layers p₄ true
      filled = record {
        list = sym e ∙ list_test;
        by_class_is = λ h. by_class_is w masks graph p₄ rows_end T.root (classes_of job x)
            (classes_ok job A x small (sym list_test ∙ e)) masks_end;
        by_layer_is = λ h. by_layer_is w layers graph p₄ rows_end T.root layers_end;
        root = λ h. T.root;
      }

-- the same of any place of the sheet
module _ {job : Job} {place : Place} {layers len list : ℕ} (P : Placed job place layers len list) (x : Setting) where
  abbrev sheet : List ℕ
  sheet = job.sheet

  same_place : place ≡ placed place.w place.masks place.graph (n_of sheet) (k_of sheet)
  same_place = place_is place (n_of sheet) (k_of sheet) P.freqs P.links

  -- at every place of the sheet, if at the one by its numbers
  at_place : (Q : Place → Type 0) → Q (placed place.w place.masks place.graph (n_of sheet) (k_of sheet))
      → Q place
  at_place Q q = subst Q (sym same_place) q

  pub callers_long : {p p₁ cls : List ℕ} {r : Bool} → RowsPut job place layers p cls
      → ListChecked x.choice place x.callers p p₁ r → r ≡ true
      → x.choice ≡ 2 → length x.callers ≡ place.n
  callers_long {p} {p₁} {cls} {r} = at_place
      (λ q. LaidOut q layers len → RowsPut job q layers p cls → ListChecked x.choice q x.callers p p₁ r
      → r ≡ true
      → x.choice ≡ 2 → length x.callers ≡ q.n)
      (λ O R C. long job P.accepted x place.w place.masks place.graph layers len O R C) P.laid

  pub list_refused : {p p₁ cls : List ℕ} {r : Bool} → RowsPut job place layers p cls
      → ListChecked x.choice place x.callers p p₁ r → r ≡ false
      → Filled job x place layers p₁ false
  list_refused {p} {p₁} {cls} {r} = at_place
      (λ q. LaidOut q layers len → RowsPut job q layers p cls → ListChecked x.choice q x.callers p p₁ r
      → r ≡ false
      → Filled job x q layers p₁ false)
      (λ O R C. refused job P.accepted x place.w place.masks place.graph layers len O R C) P.laid

  pub words_filled : {p p₁ p₂ p₃ p₄ cls cls' : List ℕ} {r : Bool} → x.choice ≤ 2 → RowsPut job place layers p cls
      → ListChecked x.choice place x.callers p p₁ r → r ≡ true → ListBuilt x.choice place p₁ p₂ cls cls'
      → Masks place.n place.k (class_list x.choice x.callers cls' place.n) place.w place.masks p₂ p₃
      → MasksCut job place layers p₃ p₄ → Filled job x place layers p₄ true
  words_filled {p} {p₁} {p₂} {p₃} {p₄} {cls} {cls'} {r} small = at_place
      (λ q. LaidOut q layers len → RowsPut job q layers p cls → ListChecked x.choice q x.callers p p₁ r
      → r ≡ true
      → ListBuilt x.choice q p₁ p₂ cls cls'
      → Masks q.n q.k (class_list x.choice x.callers cls' q.n) q.w q.masks p₂ p₃
      → MasksCut job q layers p₃ p₄ → Filled job x q layers p₄ true)
      (λ O R C e B M T. filled job P.accepted x place.w place.masks place.graph layers len O R C small e B
      M T)
      P.laid
