-- The channels of television: "A lent list of channel numbers, a byte each, 21 to 48, strictly rising", and the
-- frequencies that it takes out.
use Rattle.std.specs.Prelude.{Bool, false, ◌&&◌, ◌||◌, List, [], ◌∷◌, ℕ, ◌+◌, ◌-◌, ◌*◌, ltb, leb, eqb, length, get_or}
use Rattle.sets.specs.Below.{all, any}

-- "Channel c covers 470,000 + 8,000(c − 21) kHz up to, but without, 8,000 more"
unfoldable pub lower_edge : ℕ → ℕ
lower_edge c = 470000 + 8000 * (c - 21)

unfoldable pub covers : ℕ → ℕ → Bool
covers c x = leb (lower_edge c) x && ltb x (lower_edge c + 8000)

-- entry i of a list is above the one before it, and a channel
unfoldable pub channel_ok : List ℕ → ℕ → Bool
channel_ok cs i =
    (eqb i 0 || ltb (get_or cs (i - 1) 0) (get_or cs i 0)) && (leb 21 (get_or cs i 0) && leb (get_or cs i 0) 48)

-- not "channel list out of range or order"
unfoldable pub channels_ok : List ℕ → Bool
channels_ok cs = all (length cs) (channel_ok cs)

-- one of the list's channels covers the frequency x
unfoldable pub covered_by : List ℕ → ℕ → Bool
covered_by cs x = any (length cs) (λ i. covers (get_or cs i 0) x)

-- x is on a channel on air; an empty list is no list, told first so that what is said of a job without one computes to
-- what is said of its sheet
abbrev pub on_air : List ℕ → ℕ → Bool
on_air [] x = false
on_air (c ∷ cs) x = covered_by (c ∷ cs) x
