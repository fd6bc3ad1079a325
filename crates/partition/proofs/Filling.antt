-- The classes filled one after another: one vertex taken or left, one class, k classes, and the layers where a vertex
-- is left over.
use Rattle.std.proofs.Common.{◌≡◌, refl, sym, ap, ◌∙◌, Bool, true, false, cond, ◌&&◌, List, ℕ, zero, suc, ◌+◌, ◌≤◌, ◌<◌, arith, eqb, ltb, length, get_or, set, drop, replicate, get_or-set_same, get_or-set_other, get_or-take, get_or-drop, ext_get_or, eqb-true, eq-eqb, ne_eqb, ltb-true}
use mathlib.Core.Path.{fun_ext}
use native.Mathlib.Decide.{ℕ_discrete, dec_lt}
use lib.ListN.{get_or-replicate}
use lib.Seq.{set_out}
use Rattle.sets.specs.Below.{all, loop, tabulate}
use Rattle.sets.specs.Sets.{Set, ◌∪◌, just, nothing}
use Rattle.sets.proofs.Tests.{is_false, and_l, and_r, and_in, and_false}
use Rattle.sets.proofs.Below.{loop_none, loop_more, loop_keeps}
use Rattle.sets.proofs.Lists.{length_tabulate, get_d_tabulate}
use Rattle.rows.specs.Rows.{set_at, Outside, Put}
use Rattle.cliques.specs.declared.Place.{Place}
use Rattle.rows.proofs.Rows.{row_length, outside_none, outside_then, outside_wide}
use Rattle.partition.specs.Partition.{class_of, by_degree, free, join, fill, greedy, all_placed, built}
use Rattle.partition.specs.Words.{Rows, members, BuilderRoom, Ordered, DegreesCounted, Sorted, Joined, ClassFilled}
use Rattle.partition.specs.Words.{ClassesFilled, Kept, ClassesBuilt}
use Rattle.partition.proofs.Members.{members_set, rows_stay}
use Rattle.partition.proofs.Order.{order_before, order_after}

pub room_stays : {place : Place} {lo hi : ℕ} {p p' : List ℕ} → Outside lo hi p p' → BuilderRoom place (length p)
    → BuilderRoom place (length p')
room_stays O S = rw O.len S

-- a vertex that is left

module _ (n k : ℕ) (adj : ℕ → ℕ → Bool) (c v : ℕ) (cls : List ℕ) where
  -- there is no such vertex
  pub join_none : length cls ≤ v → join n k adj c v cls ≡ cls
  unfolding join
  join_none h = rw (set_out cls v c h) (same (eqb (class_of cls v) k && free n k adj c cls v))
    where
      same : (b : Bool) → cond b cls cls ≡ cls
      same true = refl
      same false = refl

  -- it has a class
  pub join_placed : (class_of cls v ≡ k → ⊥) → join n k adj c v cls ≡ cls
  unfolding join
  join_placed h = rw (ne_eqb (class_of cls v) k h)

  -- it is adjacent to one in class c
  pub join_barred : free n k adj c cls v ≡ false → join n k adj c v cls ≡ cls
  unfolding join
  join_barred h = rw (and_false (eqb (class_of cls v) k) _ h)

  -- a vertex that is taken
  pub join_taken : class_of cls v ≡ k → free n k adj c cls v ≡ true → join n k adj c v cls ≡ set cls v c
  unfolding join
  join_taken e h = rw (and_in (eq-eqb (class_of cls v) k e) h)

module _ {place : Place} {c v : ℕ} where
  open place use {w, graph, n, k}

  pub left_out : {p cls : List ℕ}
      → ((adj : ℕ → ℕ → Bool) → Rows adj w graph n p → set_at p w (n + n) ≡ members n cls c → join n k adj c v cls ≡ cls)
      → Joined place c v p p cls cls
  left_out {p} f = record { joined = λ adj R e. sym (f adj R e); kept = λ e. e; rest = outside_none _ _ p }

  pub taken_in : {p p' cls cls' : List ℕ} → v < n → length cls ≡ n → class_of cls v ≡ k
      → ((adj : ℕ → ℕ → Bool) → Rows adj w graph n p → set_at p w (n + n) ≡ members n cls c → free n k adj c cls v ≡ true)
      → Put (set_at p w (n + n) ∪ just v) w (n + n) p p' → cls' ≡ set cls v c → Joined place c v p p' cls cls'
  taken_in {cls = cls} h l q f P s = record {
    joined = λ adj R e. s ∙ sym (join_taken n k adj c v cls q (f adj R e));
    kept = λ e. P.here ∙ ap (λ (S : Set). S ∪ just v) e ∙ rw s (sym (members_set n v c cls h l));
    rest = P.rest;
  }

module _ (place : Place) where
  open place use {w, graph, n, k}

  -- a loop that fills class c: the first i vertices of the order are taken or left
  pub record Filling (m c : ℕ) (p₀ p cls₀ cls : List ℕ) (i : ℕ) : Type 0 where
    pub long : length cls ≡ n
    pub filled : (adj : ℕ → ℕ → Bool) → Rows adj w graph n p₀ → Ordered adj n m p₀ → members n cls₀ c ≡ nothing
        → cls ≡ loop i (λ i. join n k adj c (get_or (by_degree n k adj) i 0)) cls₀
    pub kept : members n cls₀ c ≡ nothing → set_at p w (n + n) ≡ members n cls c
    pub rest : Outside (n + n) (n + n + w) p₀ p

  -- a loop that fills k classes: c are filled
  pub record FillingAll (m : ℕ) (p₀ p cls : List ℕ) (c : ℕ) : Type 0 where
    pub long : length cls ≡ n
    pub filled : (adj : ℕ → ℕ → Bool) → Rows adj w graph n p₀ → Ordered adj n m p₀
        → cls ≡ loop c (fill n k adj) (replicate n k)
    pub rest : Outside (n + n) (n + n + w) p₀ p

pub filling_none : {place : Place} {m c : ℕ} {q p cls : List ℕ} → Put nothing place.w (place.n + place.n) q p
    → length cls ≡ place.n → Filling place m c p p cls cls 0
filling_none {p = p} P l = record {
  long = l;
  filled = λ adj R O e. sym (loop_none _ _);
  kept = λ e. P.here ∙ sym e;
  rest = outside_none _ _ p;
}

module _ {place : Place} {m c i : ℕ} {p₀ p cls₀ cls : List ℕ} (F : Filling place m c p₀ p cls₀ cls i)
    (S : BuilderRoom place (length p₀)) (few : m ≤ place.n) where
  open place use {w, graph, n, k}

  pub filling_more : {v : ℕ} {p' cls' : List ℕ} → i < m → v ≡ get_or p (n + i) 0 → Joined place c v p p' cls cls'
      → length cls' ≡ n → Filling place m c p₀ p' cls₀ cls' (i + 1)
  filling_more {v} {p'} {cls'} h q J l = record {
    long = l;
    filled = λ adj R O e. J.joined adj (rows_stay S.front F.rest R) (F.kept e)
        ∙ rw (vertex adj O, F.filled adj R O e) (sym (loop_more i _ _));
    kept = λ e. J.kept (F.kept e);
    rest = outside_then F.rest J.rest;
  }
    where
      vertex : (adj : ℕ → ℕ → Bool) → Ordered adj n m p₀ → v ≡ get_or (by_degree n k adj) i 0
      vertex adj O =
          q ∙ F.rest.same (n + i) (λ a b. omega arith) ∙ sym (get_or-drop n p₀ i 0)
          ∙ sym (get_or-take m (drop n p₀) i 0 h) ∙ ap (λ (l : List ℕ). get_or l i 0) (O.list k)

  pub filling_all : {q : List ℕ} → i ≡ m → Outside (n + n) (n + n + w) q p₀ → ClassFilled place m c q p cls₀ cls
  unfolding fill
  filling_all {q} h O = record {
    filled = λ adj R D e.
        let D' = order_before O D (omega arith) in
        let b = row_length p₀ m n (omega (arith, S.front, S.rows)) in
        let z : i ≡ length (by_degree n k adj) = h ∙ sym b ∙ ap length (D'.list k) in
        rw z at (F.filled adj (rows_stay S.front O R) D' e);
    rest = outside_then O F.rest;
  }

-- while class c is filled no vertex has a class above c, but k, which is none

abbrev Open : ℕ → ℕ → ℕ → List ℕ → Type 0
Open n k c cls = (v : ℕ) → v < n → c ≤ class_of cls v → class_of cls v ≡ k

module _ (n k : ℕ) (adj : ℕ → ℕ → Bool) where
  set_open : (c v : ℕ) (cls : List ℕ) → Open n k (suc c) cls → Open n k (suc c) (set cls v c)
  set_open c v cls o u l = go (ℕ_discrete u v) (dec_lt v (length cls))
    where
      go : Dec (u ≡ v) → Dec (v < length cls) → suc c ≤ class_of (set cls v c) u → class_of (set cls v c) u ≡ k
      go (no q) d = rw (get_or-set_other cls v u c 0 q) (o u l)
      go (yes q) (yes g) = rw (q, get_or-set_same cls v c 0 g) (λ h. absurd (omega arith))
      go (yes q) (no g) = rw (set_out cls v c (omega arith)) (o u l)

  join_open : (c v : ℕ) (cls : List ℕ) → Open n k (suc c) cls → Open n k (suc c) (join n k adj c v cls)
  unfolding join
  join_open c v cls o = go (eqb (class_of cls v) k && free n k adj c cls v)
    where
      go : (b : Bool) → Open n k (suc c) (cond b (set cls v c) cls)
      go true = set_open c v cls o
      go false = o

  fill_open : (c : ℕ) (cls : List ℕ) → Open n k c cls → Open n k (suc c) (fill n k adj c cls)
  unfolding fill
  fill_open c cls o = loop_keeps (Open n k (suc c)) (length (by_degree n k adj))
      (λ i. join n k adj c (get_or (by_degree n k adj) i 0))
      (λ i h a q. join_open c _ a q) cls (λ v l h. o v l (omega arith))

  filled_open : (c : ℕ) → Open n k c (loop c (fill n k adj) (replicate n k))
  unfolding loop
  filled_open zero = λ v l h. get_or-replicate n v k 0 l
  filled_open (suc c) = fill_open c (loop c (fill n k adj) (replicate n k)) (filled_open c)

  -- class c has no member yet
  absent : (c : ℕ) → c < k → members n (loop c (fill n k adj) (replicate n k)) c ≡ nothing
  unfolding members nothing
  absent c h = fun_ext (λ v. is_false _ (λ t.
      let cls = loop c (fill n k adj) (replicate n k) in
      let e : class_of cls v ≡ c = eqb-true _ _ (and_r (ltb v n) _ t) in
      let q : class_of cls v ≡ k = filled_open c v (ltb-true v n (and_l (ltb v n) _ t)) (omega arith) in
      omega arith))

-- the loop that fills k classes

pub filling_all_none : {place : Place} {m : ℕ} {p cls : List ℕ} → length cls ≡ place.n
    → cls ≡ replicate place.n place.k
    → FillingAll place m p p cls 0
filling_all_none {p = p} l e = record {
  long = l;
  filled = λ adj R O. e ∙ sym (loop_none _ _);
  rest = outside_none _ _ p;
}

module _ {place : Place} {m c : ℕ} {p₀ p cls : List ℕ} (F : FillingAll place m p₀ p cls c)
    (S : BuilderRoom place (length p₀)) (few : m ≤ place.n) where
  open place use {w, graph, n, k}

  pub filling_all_more : {p' cls' : List ℕ} → c < k → ClassFilled place m c p p' cls cls' → length cls' ≡ n
      → FillingAll place m p₀ p' cls' (c + 1)
  filling_all_more {p'} {cls'} h G l = record {
    long = l;
    filled = λ adj R O.
        let e = F.filled adj R O in
        G.filled adj (rows_stay S.front F.rest R) (order_before F.rest O (omega arith))
        (rw e (absent n k adj c h)) ∙ rw e (sym (loop_more c _ _));
    rest = outside_then F.rest G.rest;
  }

  pub filling_all_done : c ≡ k → ClassesFilled place m p₀ p cls
  unfolding greedy
  filling_all_done h = record {
    filled = λ adj R O. rw h at (F.filled adj R O);
    size = F.long;
    rest = F.rest;
  }

-- the whole builder

module _ {place : Place} {m : ℕ} {p p₁ p₂ p₃ p₄ layers cls : List ℕ} (S : BuilderRoom place (length p))
    (long : length layers ≡ place.n) (D : DegreesCounted place p p₁) (O : Sorted place.n p₁ p₂ m)
    (K : Kept layers p₂ p₃)
    (G : ClassesFilled place m p₃ p₄ cls) where
  open place use {w, graph, n, k}

  made : (adj : ℕ → ℕ → Bool) → Rows adj w graph n p → cls ≡ greedy n k adj
  made adj R =
      let f : n + n ≤ graph = omega (arith, S.front) in
      let d = D.degrees adj R in
      G.filled adj (rows_stay (omega arith) K.rest (rows_stay f O.rest (rows_stay (omega arith) D.rest R)))
      (order_after K.rest (O.order adj d) (omega arith))

  pub wrote : Outside 0 (n + n + w) p p₄
  wrote =
      let a = outside_wide 0 (n + n + w) (omega arith) (omega arith) D.rest in
      let b = outside_wide 0 (n + n + w) (omega arith) (omega arith) O.rest in
      let c = outside_wide 0 (n + n + w) (omega arith) (omega arith) K.rest in
      let d = outside_wide 0 (n + n + w) (omega arith) (omega arith) G.rest in
      outside_then a (outside_then b (outside_then c d))

  -- the layers stand in the first words
  pub layers_kept : (v : ℕ) → v < n → get_or p₄ v 0 ≡ class_of layers v
  layers_kept v h = G.rest.same v (λ a b. omega arith) ∙ K.at v (omega arith)

  pub built_own : all n (λ v. ltb (class_of cls v) k) ≡ true → ClassesBuilt place p p₄ layers cls
  unfolding built all_placed
  built_own t = record { classes = λ adj R. rw (← made adj R, t) refl; rest = wrote }

  pub built_layers : {cls' : List ℕ} → all n (λ v. ltb (class_of cls v) k) ≡ false
      → cls' ≡ tabulate (length cls) (λ v. get_or p₄ v 0) → ClassesBuilt place p p₄ layers cls'
  unfolding built all_placed
  built_layers {cls'} t e = record { classes = λ adj R. rw (← made adj R, t) back; rest = wrote }
    where
      back : cls' ≡ layers
      back = (rw G.size at e)
          ∙ ext_get_or 0 (tabulate n (λ v. get_or p₄ v 0)) layers (length_tabulate n _ ∙ sym long) (λ v l.
          let h : v < n = omega (arith, length_tabulate n (λ v. get_or p₄ v 0)) in
          get_d_tabulate n (λ v. get_or p₄ v 0) v 0 h ∙ layers_kept v h)
