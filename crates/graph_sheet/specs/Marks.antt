-- The marks of link pairs, by their codes: 0 where two links get no rule, else one more than the pairs that join them.
use Rattle.std.specs.Prelude.{◌≡◌, Bool, Option, List, ℕ, ◌-◌, ◌*◌, ◌≤◌, ◌<◌, ltb, length, get_or}
use Rattle.std.specs.Bool.{then_some}
use Rattle.dimacs.specs.Made.{pair_total}
use Rattle.graph_sheet.specs.declared.joins.Totals.{Totals}
use Rattle.graph_sheet.specs.Pairs.{RuleTold, TotalsOf}

-- what a mark says
unfoldable pub rule_in : ℕ → Option ℕ
rule_in m = then_some (ltb 0 m) (m - 1)

-- the marks of the codes below m are set
pub record MarkedTo (cs : List ℕ) (adj : ℕ → ℕ → Bool) (marks : List ℕ) (m : ℕ) : Type 0 where
  pub room : m ≤ length marks
  pub told : (z : ℕ) → z < m → RuleTold cs adj z (rule_in (get_or marks z 0))

-- all marks are set, and t is all rules and all pairs
pub record RulesKept (cs : List ℕ) (adj : ℕ → ℕ → Bool) (marks : List ℕ) (t : Totals) : Type 0 where
  pub marked : MarkedTo cs adj marks (length cs * length cs)
  pub totals : TotalsOf cs adj t

-- the marks are those of a graph of k links that has few pairs
pub record FewPairs (cs : List ℕ) (adj : ℕ → ℕ → Bool) (k : ℕ) (marks : List ℕ) : Type 0 where
  pub links : k ≡ length cs
  pub links_few : k ≤ 64
  pub marked : MarkedTo cs adj marks (length cs * length cs)
  pub pairs_few : pair_total cs adj ≤ 8192

-- the marks are those of some graph of k links that has few pairs
pub record FewPairsOfSome (k : ℕ) (marks : List ℕ) : Type 0 where
  pub cs : List ℕ
  pub adj : ℕ → ℕ → Bool
  pub are : FewPairs cs adj k marks
