-- The printed chart: what a table of lower edges, an entry for each channel, has to be.
use Rattle.std.specs.Prelude.{◌≡◌, List, ℕ, ◌-◌, ◌≤◌, get_or}
use Rattle.channels.specs.Channels.{lower_edge}

-- entry c − 21 is the lower edge of channel c, whatever the channel
unfoldable pub Chart : List ℕ → Type 0
Chart edges = (c : ℕ) → 21 ≤ c → c ≤ 48 → get_or edges (c - 21) 0 ≡ lower_edge c
