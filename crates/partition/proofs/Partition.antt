-- Every class of each choice is independent, and the caller's list is refused exactly when it is no partition.
use Rattle.std.proofs.Common.{◌≡◌, refl, sym, ◌∙◌, Bool, true, false, cond, ◌&&◌, List, ℕ, ◌<◌, arith, eqb, ltb, length, get_or, set, take, replicate, length-set, get_or-set_same, get_or-set_other, take_all, eqb-true, eq-eqb, ltb-true, ltb-false, lt-ltb}
use lib.ListN.{length-replicate, get_or-replicate}
use lib.Seq.{set_out}
use Rattle.sets.specs.Below.{all, any, first}
use Rattle.sets.proofs.Tests.{clash, bool, is_false, and_l, and_r, and_in, not_out, not_in}
use Rattle.sets.proofs.Below.{all_in, all_out, any_no, first_lt, first_is, loop_keeps}
use Rattle.sets.proofs.Lists.{length_tabulate, get_d_tabulate}
use Rattle.partition.specs.Choice.{class_list}
use Rattle.partition.specs.Partition.{class_of, layers_of, by_degree, free, join, fill, greedy, all_placed, built}
use Rattle.partition.specs.Partition.{is_partition, classes, Partition}

module _ (n k : ℕ) (adj : ℕ → ℕ → Bool) where
  -- v is adjacent to no vertex of class c
  pub free_out : (c : ℕ) (cls : List ℕ) (v : ℕ) → free n k adj c cls v ≡ true → (u : ℕ) → u < n → class_of cls u ≡ c
      → adj v u ≡ false
  unfolding free
  free_out c cls v h u l e = is_false (adj v u) (λ t. any_no n (λ u. eqb (class_of cls u) c && adj v u) (not_out _ h) u
      l (and_in (eq-eqb _ _ e) t))

  pub free_in : (c : ℕ) (cls : List ℕ) (v : ℕ) → ((u : ℕ) → u < n → class_of cls u ≡ c → adj v u ≡ false)
      → free n k adj c cls v ≡ true
  unfolding free
  free_in c cls v f = not_in (is_false (any n p) (λ t.
      let l = first_lt n p t in let h = first_is n p t in
      clash (adj v (m t)) (and_r (eqb (class_of cls (m t)) c) (adj v (m t)) h)
      (f (m t) l (eqb-true _ _ (and_l (eqb (class_of cls (m t)) c) _ h)))))
    where
      p : ℕ → Bool
      p u = eqb (class_of cls u) c && adj v u

      m : any n p ≡ true → ℕ
      m t = first n p

  -- cause 12's test says whether a list is a partition
  pub partition_out : (cls : List ℕ) → is_partition n k adj cls ≡ true → Partition n k adj cls
  unfolding is_partition all_placed
  partition_out cls h =
      let r = and_r (eqb (length cls) n) _ h in
      let p = and_l (all n (λ v. ltb (class_of cls v) k)) _ r in
      let q = and_r (all n (λ v. ltb (class_of cls v) k)) _ r in
      record {
        size = eqb-true (length cls) n (and_l (eqb (length cls) n) _ h);
        below = λ v l. ltb-true _ _ (all_out n (λ v. ltb (class_of cls v) k) p v l);
        apart = λ u v l g e. free_out (class_of cls u) cls u (all_out n (λ v. free n k adj (class_of cls v) cls v) q u l)
            v g (sym e);
      }

  pub partition_in : (cls : List ℕ) → Partition n k adj cls → is_partition n k adj cls ≡ true
  unfolding is_partition all_placed
  partition_in cls p = and_in (eq-eqb _ _ p.size) (and_in (all_in n _ (λ v l. lt-ltb _ _ (p.below v l)))
      (all_in n _ (λ v l. free_in (class_of cls v) cls v (λ u g e. p.apart v u l g (sym e)))))

  -- the layers, where no two vertices of a layer are adjacent
  pub layers_partition : (lay : ℕ → ℕ) → ((v : ℕ) → v < n → lay v < k)
      → ((u v : ℕ) → adj u v ≡ true → lay u ≡ lay v → ⊥) → Partition n k adj (layers_of n lay)
  unfolding layers_of
  layers_partition lay few apart = record {
    size = length_tabulate n lay;
    below = λ v l. rw (get_d_tabulate n lay v 0 l) (few v l);
    apart = λ u v l g e. is_false (adj u v) (λ t. apart u v t
        (sym (get_d_tabulate n lay u 0 l) ∙ e ∙ get_d_tabulate n lay v 0 g));
  }

  module _ (sy : (u v : ℕ) → adj u v ≡ adj v u) (self : (v : ℕ) → adj v v ≡ false) where
    -- what holds while the classes are filled: those below k are independent
    record Filling (cls : List ℕ) : Type 0 where
      size : length cls ≡ n
      apart : (u v : ℕ) → u < n → v < n → class_of cls u ≡ class_of cls v → class_of cls u < k → adj u v ≡ false

    set_fills : (c v : ℕ) (cls : List ℕ) → v < n → Filling cls → free n k adj c cls v ≡ true → Filling (set cls v c)
    set_fills c v cls l f h = record {
      size = length-set cls v c ∙ f.size;
      apart = λ u w a b e m. bool (eqb u v)
          (λ x. bool (eqb w v)
          (λ y. rw (eqb-true u v x, eqb-true w v y) (self v))
          (λ y. rw (eqb-true u v x) (free_out c cls v h w b (sym (other w y) ∙ sym e ∙ here u x))))
          (λ x. bool (eqb w v)
          (λ y. rw (eqb-true w v y) (sy u v ∙ free_out c cls v h u a (sym (other u x) ∙ e ∙ here w y)))
          (λ y. f.apart u w a b (sym (other u x) ∙ e ∙ other w y) (rw (other u x) at m)));
    }
      where
        here : (u : ℕ) → eqb u v ≡ true → class_of (set cls v c) u ≡ c
        here u x = rw (eqb-true u v x) (get_or-set_same cls v c 0 (rw f.size l))

        other : (u : ℕ) → eqb u v ≡ false → class_of (set cls v c) u ≡ class_of cls u
        other u x = get_or-set_other cls v u c 0 (λ e. clash (eqb u v) (eq-eqb u v e) x)

    join_fills : (c v : ℕ) (cls : List ℕ) → Filling cls → Filling (join n k adj c v cls)
    unfolding join
    join_fills c v cls f = go (eqb (class_of cls v) k && free n k adj c cls v) refl
      where
        go : (b : Bool) → (eqb (class_of cls v) k && free n k adj c cls v) ≡ b → Filling (cond b (set cls v c) cls)
        go false e = f
        go true e = bool (ltb v n)
            (λ t. set_fills c v cls (ltb-true v n t) f (and_r (eqb (class_of cls v) k) _ e))
            (λ t. let g = ltb-false v n t in let z = f.size in rw (set_out cls v c (omega arith)) f)

    start_fills : Filling (replicate n k)
    start_fills = record {
      size = length-replicate n k;
      apart = λ u v l g e m. absurd (let z : class_of (replicate n k) u ≡ k = get_or-replicate n u k 0 l in omega arith);
    }

    greedy_fills : Filling (greedy n k adj)
    unfolding greedy fill
    greedy_fills = loop_keeps Filling k (fill n k adj)
        (λ c l cls f. loop_keeps Filling (length (by_degree n k adj))
        (λ i. join n k adj c (get_or (by_degree n k adj) i 0)) (λ i h a p. join_fills c _ a p) cls f)
        (replicate n k) start_fills

    -- choice 1
    pub built_partition : (layers : List ℕ) → Partition n k adj layers → Partition n k adj (built n k adj layers)
    unfolding built all_placed
    built_partition layers p = go (all n (λ v. ltb (class_of (greedy n k adj) v) k)) refl
      where
        go : (b : Bool) → all n (λ v. ltb (class_of (greedy n k adj) v) k) ≡ b
            → Partition n k adj (cond b (greedy n k adj) layers)
        go false e = p
        go true e =
            let small : (v : ℕ) → v < n → class_of (greedy n k adj) v < k =
            λ v l. ltb-true _ _ (all_out n (λ v. ltb (class_of (greedy n k adj) v) k) e v l) in
            record {
              size = greedy_fills.size;
              below = small;
              apart = λ u v l g q. greedy_fills.apart u v l g q (small u l);
            }

    -- each choice, where the caller's list has passed cause 12's test
    pub classes_partition : (choice : ℕ) (layers callers : List ℕ) → Partition n k adj layers
        → ((choice ≡ 0 → ⊥) → (choice ≡ 1 → ⊥) → is_partition n k adj callers ≡ true)
        → Partition n k adj (classes n k adj choice layers callers)
    unfolding classes class_list
    classes_partition choice layers callers p q = go (eqb choice 2) (eqb choice 1) refl
      where
        -- all of a partition's list
        whole : (l : List ℕ) → Partition n k adj l → Partition n k adj (take n l)
        whole l x = rw (take_all n l (omega (arith, x.size))) x

        go : (a b : Bool) → eqb choice 2 ≡ a
            → Partition n k adj (cond a (take n callers) (take n (cond b (built n k adj layers) layers)))
        go true b x =
            let e = eqb-true choice 2 x in
            whole callers (partition_out callers (q (λ z. omega arith) (λ z. omega arith)))
        go false true x = whole (built n k adj layers) (built_partition layers p)
        go false false x = whole layers p
