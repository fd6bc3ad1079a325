-- Laws of the rule section: the loop over the rows, and what an accepted section says of a rule.
use Rattle.std.proofs.Common.{ℕ, zero, suc, ◌+◌, ◌-◌, ◌≤◌, ◌<◌, ◌≡◌, List, Bool, true, false, cond, ◌&&◌, ◌||◌, ◌⊎◌, inl, inr, arith, eqb, ltb, eqb-true, ltb-true, leb-true, ne_eqb}
use Rattle.sets.specs.Below.{all, sum_to}
use Rattle.sets.proofs.Tests.{and_out, or_case, below}
use Rattle.sets.proofs.Below.{all_out, sum_in}
use Rattle.sheet_rows.specs.Rows.{rule_a, rule_b, rule_kind, rule_count, rule_value}
use Rattle.rule_sections.specs.Rules.{most_khz, before, plain_ok, kind_ok, only, listed}
use Rattle.rule_sections.specs.Rules.{rule_rises, rule_row_ok, rule_ok, rules_ok}

-- the row test at the running sum is the test of the row
pub rule_row_is : (p : List ℕ) (k j sum : ℕ) (r : Bool) → sum ≡ sum_to j (listed p) → r ≡ rule_row_ok p k sum j
    → r ≡ rule_ok p k j
unfolding rule_ok
rule_row_is p k j sum r e h = rw (← e) h

pub rules_stop : (p : List ℕ) (k q t : ℕ) → all q (rule_ok p k) ≡ false → false ≡ rules_ok p k q t
unfolding rules_ok
rules_stop p k q t e = rw e

pub rules_end : (p : List ℕ) (k q t j sum : ℕ) → j ≡ q → all j (rule_ok p k) ≡ true → sum ≡ sum_to j (listed p)
    → eqb sum t ≡ rules_ok p k q t
unfolding rules_ok
rules_end p k q t j sum i h e = rw (← i, h, ← e)

value_is : (p : List ℕ) (j sum : ℕ) → kind_ok (rule_kind p j) (rule_count p j) (rule_value p j) sum ≡ true → 0 < listed p j
    → rule_value p j ≡ sum
unfolding kind_ok listed
value_is p j sum h o = go (eqb (rule_kind p j) 3) h o
  where
    go : (b : Bool) →
        cond b (ltb 0 (rule_count p j) && eqb (rule_value p j) sum)
        ((eqb (rule_kind p j) 1 || eqb (rule_kind p j) 2) && plain_ok (rule_count p j) (rule_value p j)) ≡ true →
        0 < only b (rule_count p j) → rule_value p j ≡ sum
    go true h o = eqb-true (rule_value p j) sum (and_out (ltb 0 (rule_count p j)) (eqb (rule_value p j) sum) h).1
    go false h o = absurd (omega arith)

value_range : (p : List ℕ) (j sum : ℕ) → kind_ok (rule_kind p j) (rule_count p j) (rule_value p j) sum ≡ true
    → (rule_kind p j ≡ 3 → ⊥) → (0 < rule_value p j) × (rule_value p j ≤ most_khz)
unfolding kind_ok plain_ok
value_range p j sum h ne =
    let r = rw (ne_eqb (rule_kind p j) 3 ne) at h in
    let x = and_out (eqb (rule_kind p j) 1 || eqb (rule_kind p j) 2) _ r in
    let y = and_out (eqb (rule_count p j) 0 && ltb 0 (rule_value p j)) _ x.1 in
    (ltb-true 0 (rule_value p j) (and_out (eqb (rule_count p j) 0) _ y.0).1, leb-true (rule_value p j) most_khz y.1)

-- rule j comes after rule i by its links
pub record After (p : List ℕ) (i j : ℕ) : Type 0 where
  pub lower : rule_a p i ≤ rule_a p j
  pub higher : rule_a p i ≡ rule_a p j → rule_b p i < rule_b p j

after_is : (p : List ℕ) (i j : ℕ) → before (rule_a p i) (rule_b p i) (rule_a p j) (rule_b p j) ≡ true → After p i j
unfolding before
after_is p i j h =
    go (or_case (ltb (rule_a p i) (rule_a p j)) (eqb (rule_a p i) (rule_a p j) && ltb (rule_b p i) (rule_b p j)) h)
  where
    go : (ltb (rule_a p i) (rule_a p j) ≡ true) ⊎ ((eqb (rule_a p i) (rule_a p j) && ltb (rule_b p i) (rule_b p j)) ≡ true)
        → After p i j
    go (inl e) =
        let l = ltb-true (rule_a p i) (rule_a p j) e in
        record { lower = omega arith; higher = λ q. absurd (omega arith) }
    go (inr e) =
        let x = and_out (eqb (rule_a p i) (rule_a p j)) (ltb (rule_b p i) (rule_b p j)) e in
        let q = eqb-true (rule_a p i) (rule_a p j) x.0 in
        record { lower = omega arith; higher = λ _. ltb-true (rule_b p i) (rule_b p j) x.1 }

-- what an accepted section says of a rule: its links are among the k and after those of the rule before it, its value
-- is in range where it lists no pairs, and its pairs are among the t
pub record RuleIn (p : List ℕ) (k t j : ℕ) : Type 0 where
  pub order : rule_a p j < rule_b p j
  pub within : rule_b p j < k
  pub rises : 0 < j → After p (j - 1) j
  pub plain : (rule_kind p j ≡ 3 → ⊥) → (0 < rule_value p j) × (rule_value p j ≤ most_khz)
  pub pairs : 0 < listed p j → rule_value p j + listed p j ≤ t

pub rule_in_lem : (p : List ℕ) (k q t j : ℕ) → rules_ok p k q t ≡ true → j < q → RuleIn p k t j
unfolding rules_ok rule_ok rule_row_ok rule_rises
rule_in_lem p k q t j h l =
    let sum = sum_to j (listed p) in
    let w = and_out (all q (rule_ok p k)) (eqb (sum_to q (listed p)) t) h in
    let x = and_out (ltb (rule_a p j) (rule_b p j) && ltb (rule_b p j) k && rule_rises p j)
    (kind_ok (rule_kind p j) (rule_count p j) (rule_value p j) sum)
    (all_out q (rule_ok p k) w.0 j l) in
    let y = and_out (ltb (rule_a p j) (rule_b p j) && ltb (rule_b p j) k) (rule_rises p j) x.0 in
    let z = and_out (ltb (rule_a p j) (rule_b p j)) (ltb (rule_b p j) k) y.0 in
    record {
      order = ltb-true (rule_a p j) (rule_b p j) z.0;
      within = ltb-true (rule_b p j) k z.1;
      rises = λ o.
          rising o (or_case (eqb j 0) (before (rule_a p (j - 1)) (rule_b p (j - 1)) (rule_a p j) (rule_b p j)) y.1);
      plain = λ ne. value_range p j sum x.1 ne;
      pairs = λ o.
          omega (arith, value_is p j sum x.1 o, eqb-true (sum_to q (listed p)) t w.1, sum_in q j (listed p) l);
    }
  where
    rising : 0 < j → (eqb j 0 ≡ true) ⊎ (before (rule_a p (j - 1)) (rule_b p (j - 1)) (rule_a p j) (rule_b p j) ≡ true)
        → After p (j - 1) j
    rising o (inl e) = let q = eqb-true j 0 e in absurd (omega arith)
    rising o (inr e) = after_is p (j - 1) j e

-- "Rows rise strictly by (a, b)": a rule comes after every earlier one
pub rule_after : (p : List ℕ) (k q t i j : ℕ) → rules_ok p k q t ≡ true → i < j → j < q → After p i j
rule_after p k q t i zero h l b = absurd (omega arith)
rule_after p k q t i (suc j) h l b = below i j l
    (λ m.
    let x = rule_after p k q t i j h m (omega arith) in
    record {
      lower = omega (arith, x, step);
      higher = λ e. omega (arith, x.higher (omega (arith, x, step)), step.higher (omega (arith, x, step)));
    })
    (λ e. rw e step)
  where
    step : After p j (suc j)
    step = let e : suc j - 1 ≡ j = omega arith in rw e at ((rule_in_lem p k q t (suc j) h b).rises (omega arith))
