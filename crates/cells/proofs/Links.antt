-- The cells of a plan, filled link by link: the link of a chosen vertex, and the cells past the links.
use Rattle.std.proofs.Common.{◌≡◌, sym, ap, ◌∙◌, Bool, false, ◌&&◌, List, ◌++◌, ℕ, ◌+◌, ◌-◌, ◌≤◌, ◌<◌, length, get_or, drop, replicate, length-append, length-drop, ext_get_or, get_or-drop, get_or-append-add, arith, eqb, leb, ltb, ltb-true, ltb-false, lt-ltb, le-ltb, le-leb, eq-eqb, eqb-true}
use lib.ListN.{length-replicate, get_or-replicate}
use lib.ListN.{get_or-append}
use borrow.Author.Tests.{lt-leb}
use Rattle.sets.proofs.Tests.{iff, bool}
use Rattle.sheet_rows.specs.Rows.{link_first, link_count, freq}
use Rattle.sheet.specs.Sheet.{k_of, n_of, freq_part}
use Rattle.sheet.specs.Accepted.{Accepted}
use Rattle.cliques.specs.Listing.{by_layer}
use Rattle.rules.specs.Job.{job_of}
use Rattle.pair_test.proofs.Laws.{link_test}
use Rattle.graph.specs.Graph.{link_of}
use Rattle.sets.specs.Below.{first, tabulate}
use Rattle.sets.proofs.Below.{first_lt}
use Rattle.sets.proofs.Lists.{length_tabulate, get_d_tabulate}
use Rattle.cells.specs.Cells.{chosen_by, cell_of, Chosen}

module _ (s : List ℕ) (A : Accepted s) (l v : ℕ) (a : l < k_of s) (b : v < n_of s) where
  abbrev from : ℕ
  from = link_first s l

  abbrev count : ℕ
  count = link_count s l

  -- the code's test of a vertex's link
  in_link_is : (leb from v && ltb v (from + count)) ≡ eqb (link_of (job_of s) v) l
  in_link_is = link_test s (k_of s) (n_of s) A.links l v a b
      ∙ iff _ _ (λ e. eq-eqb _ _ (sym (eqb-true l (link_of (job_of s) v) e)))
      (λ e. eq-eqb _ _ (sym (eqb-true (link_of (job_of s) v) l e)))

  pub not_in_link : v < from → false ≡ eqb (link_of (job_of s) v) l
  not_in_link e = sym (ap (λ x. x && ltb v (from + count)) (lt-leb _ _ e)) ∙ in_link_is

  pub in_link_by : (m : ℕ) → from ≤ v → m ≡ count → ltb (v - from) m ≡ eqb (link_of (job_of s) v) l
  in_link_by m e q =
      rw q (iff _ _ (λ t. lt-ltb v (from + count) (let z = ltb-true (v - from) count t in omega arith))
      (λ t. lt-ltb (v - from) count (let z = ltb-true v (from + count) t in omega arith)))
      ∙ sym (ap (λ x. x && ltb v (from + count)) (le-leb _ _ e)) ∙ in_link_is

-- the vertex chosen for class j is one of link l
abbrev pub is_here : List ℕ → List ℕ → ℕ → ℕ → Bool
is_here s chosen l j = eqb (link_of (job_of s) (chosen_by chosen j)) l

pub class_lt : {s chosen : List ℕ} → Chosen s chosen → (l : ℕ) → l < k_of s → first (k_of s) (is_here s chosen l) < k_of s
class_lt {s} {chosen} C l h = first_lt (k_of s) (is_here s chosen l) (C.hit l h)

pub cell_in : (s : List ℕ) (p : ℕ → ℕ) (l : ℕ) → l < k_of s
    → cell_of (job_of s) p l ≡ freq (freq_part s) (p (first (k_of s) (λ j. eqb (link_of (job_of s) (p j)) l)))
unfolding cell_of by_layer
cell_in s p l h = rw (lt-ltb l (k_of s) h)

pub cell_past : (s : List ℕ) (p : ℕ → ℕ) (l : ℕ) → k_of s ≤ l → cell_of (job_of s) p l ≡ 0
unfolding cell_of
cell_past s p l h = rw (le-ltb l (k_of s) h)

-- the cells past the links stay zero
pub cells_done : (k m : ℕ) (f : ℕ → ℕ) → k ≤ m → ((l : ℕ) → k ≤ l → f l ≡ 0)
    → tabulate k f ++ drop k (replicate m 0) ≡ tabulate m f
cells_done k m f h z = ext_get_or 0 (tabulate k f ++ drop k (replicate m 0)) (tabulate m f)
    (long ∙ sym (length_tabulate m f)) (λ i l. bool (ltb i k)
    (λ t. let a = ltb-true i k t in
    get_or-append (tabulate k f) (drop k (replicate m 0)) 0 i (rw length_tabulate a) ∙ get_d_tabulate k f i 0 a
    ∙ sym (get_d_tabulate m f i 0 (omega arith)))
    (λ t. let a = ltb-false i k t in
    let b : i < m = let q = long in omega arith in
    let e : i ≡ length (tabulate k f) + (i - k) = let q = length_tabulate k f in omega arith in
    ap (λ j. get_or (tabulate k f ++ drop k (replicate m 0)) j 0) e
    ∙ get_or-append-add (tabulate k f) (drop k (replicate m 0)) (i - k) 0 ∙ get_or-drop k (replicate m 0) (i - k) 0
    ∙ (let g : k + (i - k) ≡ i = omega arith in rw g (get_or-replicate m i 0 0 b))
    ∙ sym (get_d_tabulate m f i 0 b ∙ z i a)))
  where
    tail : length (drop k (replicate {A = ℕ} m 0)) ≡ m - k
    tail = length-drop k (replicate {A = ℕ} m 0) ∙ ap (λ x. x - k) (length-replicate {A = ℕ} m 0)

    long : length (tabulate k f ++ drop k (replicate m 0)) ≡ m
    long = length-append (tabulate k f) (drop k (replicate m 0))
        ∙ (let a = length_tabulate k f in let b = tail in omega arith)
