-- The colour sweep as the code has it: class by class, each strikes in all later classes whoever has no live neighbour
-- in it. `push` is what is left after the classes below e have struck, said with the whole sweep S: when a class
-- strikes, it is already as S leaves it.
use Rattle.std.proofs.Common.{◌≡◌, refl, sym, ap, ap₂, ◌∙◌, Bool, true, false, ◌&&◌, ◌||◌, List, ◌⊎◌, inl, inr, ℕ, zero, suc, ◌+◌, ◌-◌, ◌*◌, ◌≤◌, ◌<◌, arith, add-one, eqb, ltb, leb, eqb-true, eq-eqb, ne_eqb, ltb-true, lt-ltb, leb-true, le-leb, leb-false}
use mathlib.Core.Path.{fun_ext}
use Rattle.sets.specs.Below.{all, any}
use Rattle.sets.specs.Sets.{Set, ◌∩◌, ◌∪◌, nothing}
use Rattle.sets.proofs.Tests.{clash, bool, iff, is_false, or_l, or_r, or_case}
use Rattle.sets.proofs.Below.{any_same, all_same, all_in, all_out}
use Rattle.rows.specs.Rows.{set_at, row_at, Outside}
use Rattle.rows.proofs.Rows.{above, outside_none, outside_then}
use Rattle.cliques.specs.Graph.{Graph, is_open}
use Rattle.cliques.specs.Words.{own_row, three_rows, four_rows, Held, Remains, Node, Room}
use Rattle.cliques.specs.declared.Place.{Place}
use Rattle.filters.specs.Filtered.{Filtered}
use Rattle.filters.specs.Reach.{beside, SweptBy}
use Rattle.filters.specs.Sweep.{near, reached, sweep_to, sweep}
use Rattle.filters.proofs.Filtered.{filtered}
use Rattle.filters.proofs.ReachRows.{beside_same}
use Rattle.filters.proofs.Sweep.{sweep_promise}

and_true : (a b : Bool) → b ≡ true → (a && b) ≡ a
and_true true b e = e
and_true false b e = refl

and_assoc : (a b c : Bool) → ((a && b) && c) ≡ (a && (b && c))
and_assoc true b c = refl
and_assoc false b c = refl

ltb_more : (a e : ℕ) → (ltb a e || eqb a e) ≡ ltb a (e + 1)
ltb_more a e = iff _ _
    (λ h. pick (or_case (ltb a e) (eqb a e) h))
    (λ h. let r = ltb-true a (e + 1) h in
    bool (eqb a e) (λ t. or_r (ltb a e) t)
    (λ t. or_l _ (lt-ltb a e (less r (λ q. clash (eqb a e) (eq-eqb a e q) t)))))
  where
    less : a < e + 1 → (a ≡ e → ⊥) → a < e
    less r ne = omega arith

    pick : (ltb a e ≡ true) ⊎ (eqb a e ≡ true) → ltb a (e + 1) ≡ true
    pick (inl t) = let r = ltb-true a e t in lt-ltb a (e + 1) (omega arith)
    pick (inr t) = let r = eqb-true a e t in lt-ltb a (e + 1) (omega arith)

ltb_leb : (a e : ℕ) → ltb a (e + 1) ≡ leb a e
ltb_leb a e = iff _ _ (λ h. let r = ltb-true a (e + 1) h in le-leb a e (omega arith)) (λ h. let r = leb-true a e h in
    lt-ltb a (e + 1) (omega arith))

module _ (G : Graph) where
  open G use {n, k, cls, adj}

  pub near_same : (L M : Set) (u e : ℕ) → ((w : ℕ) → cls w ≡ e → L w ≡ M w) → near G L u e ≡ near G M u e
  unfolding near
  near_same L M u e f = any_same n _ _ (λ w l. go w)
    where
      go : (w : ℕ) → (L w && (eqb (cls w) e && adj u w)) ≡ (M w && (eqb (cls w) e && adj u w))
      go w = bool (eqb (cls w) e) (λ t. rw (f w (eqb-true (cls w) e t)) refl) (λ t. rw t (no (L w) ∙ sym (no (M w))))
        where
          no : (a : Bool) → (a && false) ≡ false
          no true = refl
          no false = refl

  -- a class is swept once, in its turn
  later : (m d : ℕ) (L : Set) (u : ℕ) → (cls u ≡ m → ⊥) → sweep_to G (suc m) d L u ≡ sweep_to G m d L u
  unfolding sweep_to reached ◌∩◌
  later m d L u ne = and_true (sweep_to G m d L u) _ (rw (ne_eqb (cls u) m ne) refl)

  before : (m d : ℕ) (L : Set) (u : ℕ) → m ≤ cls u → sweep_to G m d L u ≡ L u
  unfolding sweep_to
  before zero d L u h = refl
  before (suc m) d L u h = later m d L u (λ e. omega arith) ∙ before m d L u (omega arith)

  after : (i m d : ℕ) (L : Set) (u : ℕ) → cls u < m → sweep_to G (i + m) d L u ≡ sweep_to G m d L u
  after zero m d L u h = ap (λ (j : ℕ). sweep_to G j d L u) (let z : 0 + m ≡ m = omega arith in z)
  after (suc i) m d L u h =
      let z : suc i + m ≡ suc (i + m) = omega arith in
      ap (λ (j : ℕ). sweep_to G j d L u) z ∙ later (i + m) d L u (λ e. omega arith) ∙ after i m d L u h

  after_all : (m d : ℕ) (L : Set) (u : ℕ) → cls u < m → m ≤ k → sweep G d L u ≡ sweep_to G m d L u
  unfolding sweep
  after_all m d L u h l = let z : k ≡ (k - m) + m = omega arith in ap (λ (j : ℕ). sweep_to G j d L u) z
      ∙ after (k - m) m d L u h

  in_turn_lem : (d : ℕ) (L : Set) (u : ℕ)
      → sweep_to G (suc (cls u)) d L u
      ≡ (sweep_to G (cls u) d L u && all (cls u) (λ e. ltb e d || near G (sweep_to G (cls u) d L) u e))
  unfolding sweep_to reached ◌∩◌
  in_turn_lem d L u = rw (eq-eqb (cls u) (cls u) refl) refl

  -- who stays in the sweep: whoever has a neighbour that stays in each earlier class that remains
  pub swept : (d : ℕ) (L : Set) (u : ℕ) → cls u < k
      → sweep G d L u ≡ (L u && all (cls u) (λ e. ltb e d || near G (sweep G d L) u e))
  swept d L u h =
      after_all (suc (cls u)) d L u (omega arith) (omega arith) ∙ own
    where
      same : (e : ℕ) → e < cls u → (ltb e d || near G (sweep_to G (cls u) d L) u e)
          ≡ (ltb e d || near G (sweep G d L) u e)
      same e l = ap (λ (b : Bool). ltb e d || b)
          (near_same _ _ u e (λ w q. sym (after_all (cls u) d L w (omega arith) (omega arith))))

      own : sweep_to G (suc (cls u)) d L u ≡ (L u && all (cls u) (λ e. ltb e d || near G (sweep G d L) u e))
      own = in_turn_lem d L u ∙ ap₂ (λ (a b : Bool). a && b) (before (cls u) d L u (omega arith))
          (all_same (cls u) _ _ same)

  -- what is left after the classes below e have struck, where S is the whole sweep
  unfoldable pub push : ℕ → Set → Set → ℕ → Set
  push d S L e u = L u && all e (λ x. ltb x d || (leb (cls u) x || near G S u x))

  -- at the start
  pub push_none : (d : ℕ) (S L : Set) → push d S L d ≡ L
  unfolding push
  push_none d S L = fun_ext (λ u. and_true (L u) _ (all_in d _ (λ x l. or_l _ (lt-ltb x d l))))

  -- the class whose turn it is
  push_here : (d e : ℕ) (L : Set) (w : ℕ) → e < k → cls w ≡ e → push d (sweep G d L) L e w ≡ sweep G d L w
  unfolding push
  push_here d e L w l q = sym (swept d L w (omega arith)
      ∙ ap (λ (b : Bool). L w && b) (rw q
      (all_same e _ _ (λ x m. ap (λ (b : Bool). ltb x d || b) (rw (not_le x m) refl)))))
    where
      not_le : (x : ℕ) → x < e → leb e x ≡ false
      not_le x m = is_false (leb e x) (λ t. let r = leb-true e x t in omega arith)

  -- at the end
  pub push_all : (d : ℕ) (L : Set) → ((u : ℕ) → L u ≡ true → cls u < k) → push d (sweep G d L) L k ≡ sweep G d L
  unfolding push
  push_all d L f = fun_ext (λ u. bool (L u)
      (λ t. ap (λ (b : Bool). L u && b) (go u (f u t)) ∙ sym (swept d L u (f u t)))
      (λ t. rw t refl ∙ sym (is_false (sweep G d L u) (λ x. clash (L u) ((sweep_promise G).strikes d L u x) t))))
    where
      go : (u : ℕ) → cls u < k → all k (λ x. ltb x d || (leb (cls u) x || near G (sweep G d L) u x))
          ≡ all (cls u) (λ e. ltb e d || near G (sweep G d L) u e)
      go u l = iff _ _
          (λ h. all_in (cls u) _ (λ x m. less x m
          (all_out k (λ x. ltb x d || (leb (cls u) x || near G (sweep G d L) u x)) h x (omega arith))))
          (λ h. all_in k _ (λ x m. bool (leb (cls u) x) (λ t. or_r (ltb x d) (or_l _ t))
          (λ t. more x (all_out (cls u) (λ e. ltb e d || near G (sweep G d L) u e) h x (leb-false _ _ t)))))
        where
          less : (x : ℕ) → x < cls u → (ltb x d || (leb (cls u) x || near G (sweep G d L) u x)) ≡ true
              → (ltb x d || near G (sweep G d L) u x) ≡ true
          less x m h = rw (is_false (leb (cls u) x) (λ t. let r = leb-true (cls u) x t in omega arith)) at h

          more : (x : ℕ) → (ltb x d || near G (sweep G d L) u x) ≡ true
              → (ltb x d || (leb (cls u) x || near G (sweep G d L) u x)) ≡ true
          more x h = pick (or_case (ltb x d) _ h)
            where
              pick : (ltb x d ≡ true) ⊎ (near G (sweep G d L) u x ≡ true)
                  → (ltb x d || (leb (cls u) x || near G (sweep G d L) u x)) ≡ true
              pick (inl t) = or_l _ t
              pick (inr t) = or_r (ltb x d) (or_r (leb (cls u) x) t)

  pub push_out : (d e : ℕ) (S L : Set) (u : ℕ) → L u ≡ false → push d S L e u ≡ false
  unfolding push
  push_out d e S L u h = rw h refl

  -- a turn
  pub push_more : (d e : ℕ) (S L : Set) (u : ℕ) → d ≤ e
      → push d S L (suc e) u ≡ (push d S L e u && (leb (cls u) e || near G S u e))
  unfolding push all
  push_more d e S L u l = rw (is_false (ltb e d) (λ t. omega (arith, ltb-true e d t))) (sym (and_assoc (L u) _ _))

-- the words

-- the rows of the live vertices of a class, united, have whoever has a live neighbour in it
pub near_beside : {G : Graph} {place : Place} {p : List ℕ} → Held G place p → (L : Set) (e u : ℕ) → e < place.k
    → u < place.n
    → beside p place.w (L ∩ row_at p place.w place.masks e) place.graph place.n u ≡ near G L u e
unfolding beside near ◌∩◌
near_beside {G} {place} {p} H L e u l h =
    any_same place.n _ (λ v. L v && (eqb (G.cls v) e && G.adj u v)) (λ v m.
    and_assoc (L v) (row_at p place.w place.masks e v) (row_at p place.w place.graph v u)
    ∙ ap₂ (λ (a b : Bool). L v && (a && b)) (H.mask e v l m) (H.edge v u m h ∙ H.sy v u m h))
    ∙ ap (λ (j : ℕ). any j (λ v. L v && (eqb (G.cls v) e && G.adj u v))) (sym H.size)

-- what is live, and what was let stay, after the classes below e
pub record Swept (G : Graph) (d : ℕ) (L own kept : Set) (e : ℕ) : Type 0 where
  pub live : own ≡ push G d (sweep G d L) L e
  pub stay : (u : ℕ) → L u ≡ true → kept u ≡ ltb (G.cls u) e

pub swept_none : (G : Graph) (d : ℕ) (L kept : Set) → Remains G d L → kept ≡ nothing → Swept G d L L kept d
unfolding nothing
swept_none G d L kept R z = record {
  live = sym (push_none G d (sweep G d L) L);
  stay = λ u h. ap (λ (X : Set). X u) z
      ∙ sym (is_false (ltb (G.cls u) d) (λ t. let r = (R u h).1 in omega (arith, ltb-true (G.cls u) d t)));
}

module _ {G : Graph} {d : ℕ} {place : Place} {p : List ℕ} (N : Node G d place p) where
  open place use {w, masks, graph, n, k}

  pub swept_more : {own kept own' kept' : Set} {e : ℕ} → d ≤ e → e < k → Swept G d (own_row place p) own kept e
      → kept' ≡ kept ∪ row_at p w masks e
      → own' ≡ own ∩ (kept' ∪ beside p w (own ∩ row_at p w masks e) graph n)
      → Swept G d (own_row place p) own' kept' (e + 1)
  unfolding ◌∩◌ ◌∪◌
  swept_more {own} {kept} {own'} {kept'} {e} a l W x y = record {
    live = y ∙ fun_ext (λ u. bool (L u) (inn u) (out u)) ∙ ap (push G d S L) (sym (add-one e));
    stay = stays;
  }
    where
      L : Set
      L = own_row place p

      S : Set
      S = sweep G d L

      small : (u : ℕ) → L u ≡ true → u < n
      small u h = let r = (N.live u h).0 in omega (arith, N.held.size)

      stays : (u : ℕ) → L u ≡ true → kept' u ≡ ltb (G.cls u) (e + 1)
      stays u h = ap (λ (X : Set). X u) x ∙ ap₂ (λ (a b : Bool). a || b) (W.stay u h) (N.held.mask e u l (small u h))
          ∙ ltb_more (G.cls u) e

      mine : (v : ℕ) → G.cls v ≡ e → own v ≡ S v
      mine v q = ap (λ (X : Set). X v) W.live ∙ push_here G d e L v (omega (arith, N.held.classes)) q

      inn : (u : ℕ) → L u ≡ true → (own u && (kept' u || beside p w (own ∩ row_at p w masks e) graph n u))
          ≡ push G d S L (suc e) u
      inn u h =
          ap₂ (λ (a b : Bool). a && b) (ap (λ (X : Set). X u) W.live)
          (ap₂ (λ (a b : Bool). a || b) (stays u h ∙ ltb_leb (G.cls u) e) (near_beside N.held own e u l (small u h)
          ∙ near_same G own S u e mine))
          ∙ sym (push_more G d e S L u a)

      out : (u : ℕ) → L u ≡ false → (own u && (kept' u || beside p w (own ∩ row_at p w masks e) graph n u))
          ≡ push G d S L (suc e) u
      out u h = rw (ap (λ (X : Set). X u) W.live ∙ push_out G d e S L u h) (sym (push_out G d (suc e) S L u h))

  pub swept_all : {own kept : Set} {e : ℕ} → e ≡ k → Swept G d (own_row place p) own kept e
      → own ≡ sweep G d (own_row place p)
  swept_all q W =
      W.live ∙ ap (push G d (sweep G d (own_row place p)) (own_row place p)) (q ∙ sym N.held.classes)
      ∙ push_all G d (own_row place p) (λ u h. (N.live u h).2)

-- the loop of `sweep`

pub record Sweeping (d : ℕ) (place : Place) (p₀ p : List ℕ) (e : ℕ) : Type 0 where
  pub rest : Outside 0 (four_rows place) p₀ p
  pub so : (G : Graph) → Node G d place p₀
      → Swept G d (own_row place p₀) (own_row place p) (set_at p place.w (three_rows place)) e

module _ {d : ℕ} {place : Place} {p₀ : List ℕ} where
  open place use {w, masks, graph, n, k}

  pub sweeping_none : set_at p₀ w (w + w + w) ≡ nothing → Sweeping d place p₀ p₀ d
  sweeping_none x = record {
    rest = outside_none _ _ p₀;
    so = λ G N. swept_none G d (own_row place p₀) (set_at p₀ w (w + w + w)) N.live x;
  }

  pub sweeping_more : {p q : List ℕ} {e m len : ℕ} → Room (w + w + w + w) place len → Sweeping d place p₀ p e → d ≤ e
      → e < k → m ≡ masks + e * w → SweptBy w m graph n p q → Sweeping d place p₀ q (e + 1)
  sweeping_more {p} {q} {e} {m} R F f l g x =
      let row : set_at p w m ≡ row_at p₀ w masks e = ap (set_at p w) g ∙ above F.rest w (masks + e * w) (omega arith) in
      record {
        rest = outside_then F.rest x.rest;
        so = λ G N. swept_more N f l (F.so G N) (x.kept ∙ ap (λ (X : Set). set_at p w (w + w + w) ∪ X) row)
            (x.own ∙ ap (λ (X : Set). own_row place p ∩ (set_at q w (w + w + w) ∪ X))
            (ap (λ (X : Set). beside p w (own_row place p ∩ X) graph n) row
            ∙ beside_same w _ graph n F.rest R.graph_after));
      }

  pub sweeping_all : {p : List ℕ} {e len : ℕ} {r : Bool} → Room (w + w + w + w) place len → Sweeping d place p₀ p e
      → e ≡ k
      → ((G : Graph) → Node G d place p → r ≡ is_open G d (own_row place p))
      → Filtered sweep (w + w + w + w) d place p₀ p r
  sweeping_all {p} {e} R F l z = filtered (λ G L. (sweep_promise G).strikes d L) R F.rest
      (λ G N. swept_all N l (F.so G N)) z
