-- Rounds of trials in words.
use Rattle.std.proofs.Common.{◌≡◌, sym, ap, subst, ◌∙◌, Bool, true, false, List, ℕ, arith}
use borrow.Author.Tests.{not-false}
use Rattle.sets.specs.Sets.{Set}
use Rattle.rows.specs.Rows.{Outside}
use Rattle.rows.proofs.Rows.{outside_wide}
use Rattle.cliques.specs.Graph.{Graph, is_open}
use Rattle.cliques.specs.Words.{own_row, two_rows, four_rows, Node, Room}
use Rattle.cliques.proofs.Graph.{pair_two}
use Rattle.cliques.specs.declared.Place.{Place}
use Rattle.filters.specs.Failed.{refuted, failed}
use Rattle.filters.specs.Filtered.{Filtered}
use Rattle.filters.specs.Step.{OnTheWay, AllStand}
use Rattle.filters.specs.Unit.{unit}
use Rattle.filters.proofs.Failed.{Firm, Closed, failed_greatest}
use Rattle.filters.proofs.Promise.{way_in, way_shut, shut_start}
use Rattle.filters.proofs.Repeats.{Repeating, repeat_node, repeat_shut, repeat_on}
use Rattle.filters.proofs.Unit.{UnitClosed, unit_greatest}

-- unit steps are strikes of the filter
unit_way : (G : Graph) (d : ℕ) (L : Set) → OnTheWay G (failed G) d L (unit G d L)
unit_way G d L = way_in G (Closed G) (failed G) (failed_greatest G) d L (unit G d L) ((unit_greatest G).strikes d L)
    (λ S o z s. (unit_greatest G).keeps d L S o z.0 s)

stands_firm : (G : Graph) (d : ℕ) (L : Set) → AllStand G d L → Firm G d L
unfolding refuted
stands_firm G d L h c a b l r p = not-false _ (h c l r (pair_two G c a b L p) a p.at_a)

-- `failed`: the unit steps before a round
module _ {d : ℕ} {place : Place} {p₀ p p₁ : List ℕ} {r : Bool} {len : ℕ} (R : Room (four_rows place) place len)
    (T : Repeating failed (four_rows place) d place p₀ p) (u : Filtered unit (two_rows place) d place p p₁ r) where
  out₁ : Outside 0 (four_rows place) p p₁
  out₁ = outside_wide 0 (four_rows place) (omega arith) (omega arith) u.rest

  -- they leave a class empty
  pub rested_shut : r ≡ false → Filtered failed (four_rows place) d place p₀ p₁ false
  rested_shut e = repeat_shut failed Closed failed_greatest R T out₁ (λ G N.
      way_shut G (Closed G) (failed G) (failed_greatest G) d _ _ (unit_way G d (own_row place p))
      (shut_start G (Closed G) (failed G) (failed_greatest G) d _ (sym (u.opens G N) ∙ e)))

  -- or they do not, and the round comes
  module _ (e : r ≡ true) where
    pub rested : Repeating failed (four_rows place) d place p₀ p₁
    rested = repeat_on failed Closed failed_greatest R T out₁
        (λ G N. rw (u.says G N e) (unit_way G d (own_row place p)))

    -- a round that strikes nothing leaves the own row closed
    pub rested_closed : (G : Graph) → Node G d place p₀ → AllStand G d (own_row place p₁)
        → (is_open G d (own_row place p₁) ≡ true) × Closed G d (own_row place p₁)
    rested_closed G N h =
        let M = repeat_node failed Closed failed_greatest R T G N in
        let own : own_row place p₁ ≡ unit G d (own_row place p) = u.says G M e in
        let o = sym (u.opens G M) ∙ e in (
          ap (is_open G d) own ∙ o,
          (
            subst (λ (L : Set). UnitClosed G d L) (sym own) ((unit_greatest G).closed d (own_row place p) o),
            stands_firm G d (own_row place p₁) h,
          ),
        )
