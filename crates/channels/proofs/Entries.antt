-- A table is the chart where all of its entries together pass one test, which computes.
use Rattle.std.proofs.Common.{◌≡◌, ◌∙◌, ap, Bool, true, List, ℕ, ◌+◌, ◌-◌, arith, eqb, get_or, eqb-true}
use Rattle.sets.specs.Below.{all}
use Rattle.sets.proofs.Below.{all_out}
use Rattle.channels.specs.Channels.{lower_edge}
use Rattle.channels.specs.Chart.{Chart}

-- entry i is the lower edge of channel 21 + i, at each of the 28
unfoldable pub is_chart : List ℕ → Bool
is_chart edges = all 28 (λ i. eqb (get_or edges i 0) (lower_edge (21 + i)))

pub chart : (edges : List ℕ) → is_chart edges ≡ true → Chart edges
unfolding is_chart Chart
chart edges t c l h =
    eqb-true _ _ (all_out 28 (λ i. eqb (get_or edges i 0) (lower_edge (21 + i))) t (c - 21) (omega arith))
    ∙ ap lower_edge (omega arith)
