-- The neighbours of a set's members, member by member, and what a class strikes in the own row, call by call.
use Rattle.std.proofs.Common.{◌≡◌, refl, sym, ap, ap₂, ◌∙◌, Bool, true, false, ◌&&◌, ◌||◌, List, ℕ, zero, suc, ◌+◌, ◌-◌, ◌*◌, ◌≤◌, ◌<◌, add-zero, add-suc, add-one, arith}
use mathlib.Core.Path.{fun_ext}
use Rattle.sets.specs.Below.{any}
use Rattle.sets.specs.Sets.{Set, ◌∩◌, ◌∪◌}
use Rattle.sets.proofs.Below.{any_same}
use Rattle.sets.proofs.Sets.{join_assoc}
use Rattle.vset.specs.Words.{None, Least}
use Rattle.rows.specs.Rows.{set_at, row_at, Outside, Put}
use Rattle.rows.proofs.Rows.{above, below, outside_none, outside_then, outside_wide}
use Rattle.filters.specs.Reach.{beside, StruckBy, SweptBy}

or_false : (a b : Bool) → b ≡ false → (a || b) ≡ a
or_false true b e = refl
or_false false b e = e

module _ (p : List ℕ) (w : ℕ) (S : Set) (graph : ℕ) where
  beside_gap : (a i : ℕ) → None S a (a + i) → (u : ℕ) → beside p w S graph (a + i) u ≡ beside p w S graph a u
  unfolding beside any
  beside_gap a zero h u = ap (λ (m : ℕ). beside p w S graph m u) (add-zero a)
  beside_gap a (suc i) h u =
      ap (λ (m : ℕ). beside p w S graph m u) (add-suc a i)
      ∙ or_false (beside p w S graph (a + i) u) _ (rw (h (a + i) (omega arith) (omega arith)) refl)
      ∙ beside_gap a i (λ v l m. h v l (omega arith)) u

  -- no member from a up to b
  beside_none : (a b : ℕ) → a ≤ b → None S a b → beside p w S graph b ≡ beside p w S graph a
  beside_none a b l h =
      let e : b ≡ a + (b - a) = omega arith in
      fun_ext (λ u. ap (λ (m : ℕ). beside p w S graph m u) e ∙ beside_gap a (b - a) (λ v x y. h v x (omega arith)) u)

  -- one member more
  beside_next : (v : ℕ) → S v ≡ true → beside p w S graph (v + 1) ≡ beside p w S graph v ∪ row_at p w graph v
  unfolding beside any ◌∪◌
  beside_next v e = fun_ext (λ u. rw (add-one, e) refl)

  beside_zero : (T : Set) → T ∪ beside p w S graph 0 ≡ T
  unfolding beside any ◌∪◌
  beside_zero T = fun_ext (λ u. or_false (T u) false refl)

-- the graph's rows are as they were
pub beside_same : {lo hi : ℕ} {p q : List ℕ} (w : ℕ) (S : Set) (graph n : ℕ) → Outside lo hi p q → hi ≤ graph
    → beside q w S graph n ≡ beside p w S graph n
unfolding beside
beside_same {lo} {hi} {p} {q} w S graph n x h =
    fun_ext (λ u. any_same n _ _ (λ v l. ap (λ (X : Set). S v && X u) (above x w (graph + v * w) (omega arith))))

-- the loop of `add_neighbours`: the members of row a below v are done
pub record Uniting (w a u graph n : ℕ) (p₀ p : List ℕ) (v : ℕ) : Type 0 where
  pub within : v ≤ 64 * w
  pub here : set_at p w u ≡ set_at p₀ w u ∪ beside p₀ w (set_at p₀ w a) graph v
  pub rest : Outside u (u + w) p₀ p
  pub live : v < n → set_at p₀ w a v ≡ true
  pub gap : None (set_at p₀ w a) n v

module _ {w a u graph n : ℕ} {p₀ : List ℕ} (l : a + w ≤ u) (m : u + w ≤ graph) (s : n ≤ 64 * w) where
  pub uniting_start : {v : ℕ} → Least (set_at p₀ w a) 0 (64 * w) v → Uniting w a u graph n p₀ p₀ v
  uniting_start {v} L = record {
    within = L.within;
    here = sym (ap (λ (X : Set). set_at p₀ w u ∪ X) (beside_none p₀ w (set_at p₀ w a) graph 0 v L.after L.none)
        ∙ beside_zero p₀ w (set_at p₀ w a) graph (set_at p₀ w u));
    rest = outside_none _ _ p₀;
    live = λ h. L.found (omega arith);
    gap = λ x b e. L.none x (omega arith) e;
  }

  pub uniting_more : {p q : List ℕ} {v v' g : ℕ} → Uniting w a u graph n p₀ p v → v < n → g ≡ graph + v * w
      → Put (set_at p w u ∪ set_at p w g) w u p q → Least (set_at q w a) (v + 1) (64 * w) v'
      → Uniting w a u graph n p₀ q v'
  uniting_more {p} {q} {v} {v'} {g} F h e P L =
      let rest : Outside u (u + w) p₀ q = outside_then F.rest P.rest in
      let same : set_at q w a ≡ set_at p₀ w a = below rest w a l in
      let row : set_at p w g ≡ row_at p₀ w graph v = ap (set_at p w) e ∙ above F.rest w (graph + v * w) (omega arith) in
      let M : Least (set_at p₀ w a) (v + 1) (64 * w) v' = rw same at L in
      record {
        within = M.within;
        here = P.here ∙ ap₂ (λ (X Y : Set). X ∪ Y) F.here row ∙ join_assoc _ _ _
            ∙ ap (λ (X : Set). set_at p₀ w u ∪ X)
            (sym (beside_none p₀ w (set_at p₀ w a) graph (v + 1) v' M.after M.none
            ∙ beside_next p₀ w (set_at p₀ w a) graph v (F.live h)));
        rest = rest;
        live = λ x. M.found (omega arith);
        gap = λ x b e. M.none x (omega arith) e;
      }

  pub uniting_end : {p : List ℕ} {v : ℕ} → Uniting w a u graph n p₀ p v → n ≤ v
      → Put (set_at p₀ w u ∪ beside p₀ w (set_at p₀ w a) graph n) w u p₀ p
  uniting_end {p} {v} F h = record {
    here = F.here ∙ ap (λ (X : Set). set_at p₀ w u ∪ X) (beside_none p₀ w (set_at p₀ w a) graph n v h F.gap);
    rest = F.rest;
  }

-- the calls of `strike_unreached` and of `sweep_by`
module _ {w m graph n : ℕ} {p p₁ p₂ p₃ : List ℕ} where
  pub struck : w + w + w ≤ m → w + w + w ≤ graph
      → Put (set_at p w 0 ∩ set_at p w m) w w p p₁
      → Put (set_at p₁ w (w + w) ∪ beside p₁ w (set_at p₁ w w) graph n) w (w + w) p₁ p₂
      → Put (set_at p₂ w 0 ∩ set_at p₂ w (w + w)) w 0 p₂ p₃
      → StruckBy w m graph n p p₃
  struck a b x y z =
      let own : set_at p₂ w 0 ≡ set_at p w 0 = below y.rest w 0 (omega arith) ∙ below x.rest w 0 (omega arith) in
      let row : set_at p₁ w (w + w) ≡ set_at p w (w + w) = above x.rest w (w + w) (omega arith) in
      record {
        own = z.here ∙ ap₂ (λ (X Y : Set). X ∩ Y) own (y.here ∙ ap₂ (λ (X Y : Set). X ∪ Y) row
            (ap (λ (S : Set). beside p₁ w S graph n) x.here ∙ beside_same w _ graph n x.rest (omega arith)));
        rest = outside_then (outside_wide 0 (w + w + w) (omega arith) (omega arith) x.rest)
            (outside_then (outside_wide 0 (w + w + w) (omega arith) (omega arith) y.rest)
            (outside_wide 0 (w + w + w) (omega arith) (omega arith) z.rest));
      }

  pub swept_by : w + w + w + w ≤ m → w + w + w + w ≤ graph
      → Put (set_at p w (w + w + w) ∪ set_at p w m) w (w + w + w) p p₁
      → Put (set_at p₁ w (w + w + w)) w (w + w) p₁ p₂
      → StruckBy w m graph n p₂ p₃
      → SweptBy w m graph n p p₃
  swept_by a b x y z =
      let r₁ : Outside 0 (w + w + w + w) p p₁ = outside_wide 0 (w + w + w + w) (omega arith) (omega arith) x.rest in
      let r₂ : Outside 0 (w + w + w + w) p p₂ =
      outside_then r₁ (outside_wide 0 (w + w + w + w) (omega arith) (omega arith) y.rest) in
      let own : set_at p₂ w 0 ≡ set_at p w 0 = below y.rest w 0 (omega arith) ∙ below x.rest w 0 (omega arith) in
      let mask : set_at p₂ w m ≡ set_at p w m = above r₂ w m (omega arith) in
      let kept : set_at p₃ w (w + w + w) ≡ set_at p₁ w (w + w + w) = above z.rest w (w + w + w) (omega arith)
      ∙ above y.rest w (w + w + w) (omega arith) in
      record {
        kept = kept ∙ x.here;
        own = z.own ∙ ap₂ (λ (X Y : Set). X ∩ Y) own (ap₂ (λ (X Y : Set). X ∪ Y) (y.here ∙ sym kept)
            (ap (λ (S : Set). beside p₂ w S graph n) (ap₂ (λ (X Y : Set). X ∩ Y) own mask)
            ∙ beside_same w _ graph n r₂ (omega arith)));
        rest = outside_then r₂ (outside_wide 0 (w + w + w + w) (omega arith) (omega arith) z.rest);
      }
