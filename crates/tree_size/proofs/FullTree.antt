-- The tree of a full graph: at each node but those of the last class every vertex of the next class is tried, and only
-- the last path leads to a plan.
use mathlib.Core.Path.{◌≡◌, refl, sym, ap, subst, ◌∙◌}
use mathlib.Core.Bool.{Bool, true, false, ◌&&◌}
use Prim.Native.Nat.{ℕ, zero, suc, ◌+◌, ◌-◌, ◌*◌, ◌≤◌, ◌<◌}
use native.Mathlib.Nat.{mul-le-mul_right}
use native.Mathlib.Omega.{arith}
use lib.Dec.{eqb, ltb}
use borrow.Author.Tests.{eqb-true, eqb-false, ltb-true, ltb-false, eq-eqb, ne_eqb, lt-ltb}
use Rattle.sets.specs.Below.{any, first, count}
use Rattle.sets.specs.Sets.{Set, ◌∩◌, whole}
use Rattle.sets.proofs.Tests.{clash, bool, case, is_false, below, and_in}
use Rattle.sets.proofs.Below.{first_lt, first_is, first_least, count_just}
use Rattle.sets.proofs.Sets.{meet_r, meet_in}
use Rattle.cliques.specs.Graph.{Graph, At, in_class, some, is_open, layered}
use Rattle.cliques.proofs.Graph.{class_at, at_class, some_in, lower_at, open_in, open_out}
use Rattle.filters.specs.Promise.{Filter}
use Rattle.filters.specs.Switches.{idle, on, at_node}
use Rattle.search.specs.Setting.{root, root_set, entered, tree}
use Rattle.search.specs.Tree.{Tree, choose, in_turn, node}
use Rattle.search.proofs.Rooted.{entered_plain}
use Rattle.tree_size.specs.Size.{full}
use Rattle.tree_size.proofs.FullGraph.{FullGraph}
use Rattle.tree_size.proofs.AtMost.{full_one, full_more}
use Rattle.tree_size.proofs.Takes.{Takes, takes_choose, takes_plus, in_turn_none, in_turn_found}

-- no filter
abbrev plain : Filter
plain d L = L

module _ (G : Graph) (m z x : ℕ) (S : FullGraph G m z x) where
  open G use {n, k, cls, adj}

  -- the live set at depth d, where b says whether each vertex chosen is the last of its class
  record Live (d : ℕ) (b : Bool) (L : Set) : Type 0 where
    -- of the classes before z every vertex that remains, and x if b
    whole : (v : ℕ) → v < n → d ≤ cls v → cls v < z → L v ≡ true
    last : L x ≡ b
    -- of class z its first vertex before the node of class z, and at it none without x
    first : d < z → L (z * m) ≡ true
    none : d ≡ z → b ≡ false → (v : ℕ) → v < n → cls v ≡ z → L v ≡ false

  -- the vertices of a class are among the n
  in_n : (c v : ℕ) → c ≤ z → v < c * m + m → v < n
  in_n c v l h = omega (arith, mul-le-mul_right m l, S.size)

  x_at : {d : ℕ} {L : Set} → Live d true L → At G z x L
  x_at l = record {
    lt = omega (arith, S.end);
    live = l.last;
    cl = let s = S.size in let e = S.end in let p = S.some in S.class z x (omega arith) (omega arith) (omega arith);
  }

  -- each remaining class has a live vertex: its first
  first_at_lem : {d : ℕ} {b : Bool} {L : Set} → Live d b L → d < z → (c : ℕ) → d ≤ c → c ≤ z → some G c L ≡ true
  first_at_lem {d} {b} {L} l dz c dc cz = some_in G c (c * m) L (record { lt = lt; live = live; cl = cl })
    where
      lt : c * m < n
      lt = in_n c (c * m) cz (omega (arith, S.some))

      cl : cls (c * m) ≡ c
      cl = S.class c (c * m) cz (omega arith) (omega (arith, S.some))

      live : L (c * m) ≡ true
      live = below c z (omega arith)
          (λ h. l.whole (c * m) lt (omega (arith, cl)) (omega (arith, cl)))
          (λ q. rw q (l.first dz))

  live_open : {d : ℕ} {b : Bool} {L : Set} → Live d b L → d < z → is_open G d L ≡ true
  live_open {d} {b} {L} l dz = open_in G d L (λ c dc ck. first_at_lem l dz c dc (omega (arith, S.classes)))

  -- choosing a vertex of class d
  next : {d : ℕ} {b : Bool} {L : Set} → Live d b L → d < z → (v : ℕ) → At G d v L
      → Live (suc d) (b && eqb (suc v) (d * m + m)) (L ∩ adj v)
  unfolding ◌∩◌
  next {d} {b} {L} l dz v a = record {
    whole = λ u un du uz. meet_in L (adj v) u (l.whole u un (omega arith) uz)
        (S.early v u a.lt un (omega (arith, a.cl)) uz);
    last = meets;
    first = λ sz. meet_in L (adj v) (z * m) (l.first dz) (S.first v a.lt (omega (arith, a.cl)));
    none = λ sz e u un uc. bool (eqb u x)
        (λ t. rw (eqb-true u x t) (meets ∙ e))
        (λ t. is_false ((L ∩ adj v) u) (λ h. clash (adj v u) (meet_r L (adj v) u h)
        (S.other v u a.lt un (omega (arith, a.cl)) uc (eqb-false u x t))));
  }
    where
      meets : (L ∩ adj v) x ≡ (b && eqb (suc v) (d * m + m))
      meets = rw (l.last, S.last v a.lt (omega (arith, a.cl)), a.cl)

  -- the vertices of a class before the last are tried in turn, all of them; s is what one takes in vain
  tries : (d s : ℕ) (b : Bool) (L : Set) (f : ℕ → Tree) → d < z → Live d b L
      → ((v : ℕ) (c : Bool) → Live (suc d) c (L ∩ adj v) → Takes c s (f v))
      → Takes b (m * s) (in_turn false f (in_class G d L) n)
  tries d s b L f dz l ih = go b l
    where
      p : Set
      p = in_class G d L

      w : ℕ
      w = d * m + m - 1

      member : (b : Bool) → Live d b L → (v : ℕ) → d * m ≤ v → v < d * m + m → p v ≡ true
      member b l v a h =
          let c = S.class d v (omega arith) a h in
          let i = in_n d v (omega arith) h in
          at_class G d v L (record { lt = i; live = l.whole v i (omega arith) (omega arith); cl = c })

      within : (v : ℕ) → v < n → p v ≡ true → (d * m ≤ v) × (v < d * m + m)
      within v h e =
          let i = S.place v h in
          let q : cls v * m ≡ d * m = ap (λ c. c * m) (class_at G d v L h e).cl in
          (omega arith, omega arith)

      chosen : {a c : Bool} {M : Set} → a ≡ c → Live (suc d) a M → Live (suc d) c M
      chosen {M = M} e l = subst (λ c. Live (suc d) c M) e l

      -- a vertex before the last, and the last
      vain : Live d true L → (v : ℕ) → v < w → p v ≡ true → Takes false s (f v)
      vain l v h t =
          let a = class_at G d v L (omega (arith, in_n d w (omega arith) (omega (arith, S.some)))) t in
          ih v false (chosen (ne_eqb (suc v) (d * m + m) (λ q. omega arith)) (next l dz v a))

      found : Live d true L → p w ≡ true → Takes true s (f w)
      found l t =
          let e : suc w ≡ d * m + m = omega (arith, S.some) in
          let a = class_at G d w L (in_n d w (omega arith) (omega arith)) t in
          ih w true (chosen (eq-eqb (suc w) (d * m + m) e) (next l dz w a))

      before : Live d true L → count w p ≡ m - 1
      before l = count_just w (d * m) (m - 1) p (omega (arith, S.some))
          (λ v h t. let i = within v (omega (arith, in_n d w (omega arith) (omega (arith, S.some)))) t in
          (i.0, omega (arith, S.some)))
          (λ v a h. member true l v a (omega arith))

      go : (b : Bool) → Live d b L → Takes b (m * s) (in_turn false f p n)
      go true l =
          let t = member true l w (omega (arith, S.some)) (omega (arith, S.some)) in
          let i = in_n d w (omega arith) (omega (arith, S.some)) in
          let q : 1 + count w p ≡ m = omega (arith, before l, S.some) in
          subst (λ q. Takes true (q * s) (in_turn false f p n)) q (in_turn_found s f p n w i t (vain l) (found l t))
      go false l = subst (λ q. Takes false (q * s) (in_turn false f p n))
          (count_just n (d * m) m p (omega (arith, mul-le-mul_right m dz, S.size)) within (member false l))
          (in_turn_none s f p n (λ v h e. ih v false (next l dz v (class_at G d v L h e))))

  -- a node of the last class: one node more, if any vertex is live
  leaf : (d : ℕ) (b : Bool) (L : Set) → d ≡ z → Live d b L → Takes b 1 (node false G plain 1 d L)
  unfolding node some
  leaf d true L e l =
      let y = some_in G z x L (x_at l) in
      let w = first n (in_class G d L) in
      let t : any n (in_class G d L) ≡ true = rw e y in
      case (Takes true 1) (is_open G d L) _ _
      (λ o. takes_plus true 0 turn (subst (λ q. Takes true q turn) {y = 0} (omega arith)
      (in_turn_found 0 _ (in_class G d L) n w (first_lt n _ t) (first_is n _ t)
      (λ v h i. clash (in_class G d L v) i (first_least n _ v h))
      (takes_choose true 0 d w (node false G plain 0 (suc d) (L ∩ adj w)) (omega arith)))))
      (λ o. clash (is_open G d L) (open_in G d L (λ c dc ck. let q : c ≡ z = omega (arith, S.classes) in rw q y)) o)
    where
      turn : Tree
      turn = in_turn false (λ v. choose d v (node false G plain 0 (suc d) (L ∩ adj v))) (in_class G d L) n
  leaf d false L e l = case (Takes false 1) (is_open G d L) _ _
      (λ o. let a = lower_at G z L (open_out G d L o z (omega arith) (omega (arith, S.classes))) in
      clash _ a.live (l.none e refl _ a.lt a.cl))
      (λ o. omega arith)

  -- with r classes to come after this one
  live_takes : (r d : ℕ) (b : Bool) (L : Set) → d + r ≡ z → Live d b L
      → Takes b (full m (suc r)) (node false G plain (suc r) d L)
  unfolding node
  live_takes zero d b L e l =
      subst (λ q. Takes b q (node false G plain 1 d L)) (sym (full_one m)) (leaf d b L (omega arith) l)
  live_takes (suc r) d b L e l =
      subst (λ q. Takes b q (node false G plain (suc (suc r)) d L)) (sym (full_more m (suc r)))
      (case (Takes b (1 + m * full m (suc r))) (is_open G d L) _ _
      (λ o. takes_plus b _ _ (tries d (full m (suc r)) b L _ (omega arith) l
      (λ v c i. takes_choose c _ d v _ (live_takes r (suc d) c (L ∩ adj v) (omega arith) i))))
      (λ o. clash (is_open G d L) (live_open l (omega arith)) o))

  -- the root
  all_live : Live 0 true (whole n)
  unfolding whole
  all_live = record {
    whole = λ v l _ _. lt-ltb v n l;
    last = lt-ltb x n (omega (arith, S.end));
    first = λ _. lt-ltb (z * m) n (omega (arith, S.size, S.some));
    none = λ _ e. clash true refl e;
  }

  all_open : is_open G 0 (whole n) ≡ true
  all_open = open_in G 0 (whole n) (λ c _ ck. bool (ltb 0 z)
      (λ e. first_at_lem all_live (ltb-true 0 z e) c (omega arith) (omega (arith, S.classes)))
      (λ e. let h = ltb-false 0 z e in let q : c ≡ z = omega (arith, S.classes) in
      rw q (some_in G z x (whole n) (x_at all_live))))

-- under filter 0
pub tree_takes : (G : Graph) (m z x : ℕ) → FullGraph G m z x → (lay : ℕ → ℕ) → FullGraph (layered G lay) m z x
    → Takes true (full m G.k) (tree false 0 G lay (whole G.n))
unfolding tree root root_set at_node on idle
tree_takes G m z x S lay T = case (Takes true (full m G.k)) (entered 0 G lay (whole G.n)) _ _
    (λ o. subst (λ j. Takes true (full m j) (node false G (at_node 0 G) j 0 (whole G.n))) (sym S.classes)
    (live_takes G m z x S z 0 true (whole G.n) (omega arith) (all_live G m z x S)))
    (λ o. clash (entered 0 G lay (whole G.n)) (entered_plain 0 G lay (whole G.n)
    (and_in (all_open (layered G lay) m z x T) (all_open G m z x S)) refl) o)
