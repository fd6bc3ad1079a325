-- The marks of link pairs, set one after another and looked up.
use Rattle.std.proofs.Common.{SomeIff, Option, Some, None, is_some, unwrap_or}
use mathlib.Core.Path.{◌≡◌, refl, sym, ap, subst, ◌∙◌}
use mathlib.Core.Bool.{Bool, true, false, cond}
use mathlib.Core.List.{List}
use Prim.Native.Nat.{ℕ, ◌+◌, ◌-◌, ◌*◌, ◌≤◌, ◌<◌}
use native.Mathlib.Omega.{arith}
use native.Mathlib.Nat.{mul-le-mul}
use lib.ListN.{length, get_or, set, length-set}
use lib.Seq.{get_or-set_same, get_or-set_other}
use borrow.Author.Tests.{lt-ltb}
use Rattle.sets.proofs.Tests.{bool, below, clash}
use Rattle.graph_sheet.specs.Pairs.{RuleTold}
use Rattle.graph_sheet.specs.Marks.{rule_in, MarkedTo, RulesKept, FewPairs}
use Rattle.graph_sheet.specs.declared.joins.Totals.{Totals}
use Rattle.graph_sheet.proofs.Ruling.{Tally, tally_all}

mark_zero : (m : ℕ) → m ≡ 0 → None ≡ rule_in m
unfolding rule_in
mark_zero m e = rw e refl

mark_some : (m : ℕ) → (m ≡ 0 → ⊥) → Some (m - 1) ≡ rule_in m
unfolding rule_in
mark_some m h = rw (lt-ltb 0 m (omega arith)) refl

pub mark_read : (m : ℕ) {r : Option ℕ} → SomeIff r (1 ≤ m) (m - 1) → r ≡ rule_in m
mark_read m {r = None} s = mark_zero m (omega (arith, s))
mark_read m {r = Some x} s = ap Some s.1 ∙ mark_some m (λ e. omega (arith, s.0))

module _ (cs : List ℕ) (adj : ℕ → ℕ → Bool) where
  -- a mark says what was told
  told_marked : (z m : ℕ) {r : Option ℕ} → RuleTold cs adj z r → m ≡ cond (is_some r) (unwrap_or r 0 + 1) 0
      → RuleTold cs adj z (rule_in m)
  told_marked z m {r} R e = bool (is_some r) yes no
    where
      yes : is_some r ≡ true → RuleTold cs adj z (rule_in m)
      yes q =
          let i : m ≡ unwrap_or r 0 + 1 = e ∙ ap (λ b. cond b (unwrap_or r 0 + 1) 0) q in
          let p : m - 1 ≡ unwrap_or r 0 = omega arith in
          subst (RuleTold cs adj z) (mark_some m (λ n. omega arith)) (record {
            ruled = sym q ∙ R.ruled;
            pairs = λ _. p ∙ R.pairs q;
            few = omega (arith, R.few);
          })

      no : is_some r ≡ false → RuleTold cs adj z (rule_in m)
      no q = subst (RuleTold cs adj z) (mark_zero m (e ∙ ap (λ b. cond b (unwrap_or r 0 + 1) 0) q)) (record {
        ruled = sym q ∙ R.ruled;
        pairs = λ t. clash false t refl;
        few = omega arith;
      })

  pub marked_none : (marks : List ℕ) → MarkedTo cs adj marks 0
  marked_none marks = record { room = omega arith; told = λ z h. absurd (omega arith) }

  pub marked_more : {marks : List ℕ} {r : Option ℕ} (z m : ℕ) → z < length marks → MarkedTo cs adj marks z
      → RuleTold cs adj z r → m ≡ cond (is_some r) (unwrap_or r 0 + 1) 0 → MarkedTo cs adj (set marks z m) (z + 1)
  marked_more {marks} z m h M R e = record {
    room = rw (length-set marks z m) (omega arith);
    told = λ i g. below i z (omega arith)
        (λ b. rw (get_or-set_other marks z i m 0 (λ q. omega arith)) (M.told i b))
        (λ q. rw (q, get_or-set_same marks z m 0 h) (told_marked z m R e));
  }

  pub marked_all : {marks : List ℕ} {t : Totals} (k z : ℕ) → k ≡ length cs → k ≤ 64 → z ≡ k * k
      → MarkedTo cs adj marks z → Tally cs adj z t → RulesKept cs adj marks t
  marked_all {marks} k z e few q M T = record {
    marked = subst (MarkedTo cs adj marks) (q ∙ ap (λ x. x * x) e) M;
    totals = tally_all cs adj k z e few q T;
  }

  pub marked_links : {marks : List ℕ} (k : ℕ) → k ≡ length cs → MarkedTo cs adj marks (length cs * length cs)
      → MarkedTo cs adj marks (k * k)
  marked_links {marks} k e M = subst (λ m. MarkedTo cs adj marks (m * m)) (sym e) M

  -- what the mark of a code tells
  pub told_by : {marks : List ℕ} {r : Option ℕ} {m : ℕ} (z : ℕ) → MarkedTo cs adj marks m → z < m
      → r ≡ rule_in (get_or marks z 0) → RuleTold cs adj z r
  told_by z M h e = subst (RuleTold cs adj z) (sym e) (M.told z h)

pub few_square : {cs : List ℕ} {adj : ℕ → ℕ → Bool} {k : ℕ} {marks : List ℕ} → FewPairs cs adj k marks → k * k ≤ 4096
few_square F = mul-le-mul F.links_few F.links_few

-- the marks of a graph with few pairs
module _ {cs : List ℕ} {adj : ℕ → ℕ → Bool} {k : ℕ} {marks : List ℕ} (F : FewPairs cs adj k marks) (z : ℕ)
    (h : z < k * k) where
  pub below_square : z < length cs * length cs
  below_square = rw F.links at h

  pub few_told : {r : Option ℕ} → r ≡ rule_in (get_or marks z 0) → RuleTold cs adj z r
  few_told e = told_by cs adj z F.marked below_square e
