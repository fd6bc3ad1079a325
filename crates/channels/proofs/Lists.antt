-- Lists of channels: each entry is one, and what is on air is what a channel covers.
use Rattle.std.proofs.Common.{◌≡◌, sym, refl, true, ◌||◌, List, [], ◌∷◌, ℕ, ◌-◌, ◌≤◌, ◌<◌, ltb, leb, eqb, length, get_or, leb-true}
use Rattle.sets.proofs.Tests.{and_l, and_r}
use Rattle.sets.proofs.Below.{all_out, any_none}
use Rattle.channels.specs.Channels.{channel_ok, channels_ok, covered_by, on_air}

pub in_range_lem : (cs : List ℕ) (i : ℕ) → channels_ok cs ≡ true → i < length cs → (21 ≤ get_or cs i 0) × (get_or cs i 0 ≤ 48)
unfolding channels_ok channel_ok
in_range_lem cs i h l =
    let r = and_r (eqb i 0 || ltb (get_or cs (i - 1) 0) (get_or cs i 0)) _ (all_out (length cs) (channel_ok cs) h i l) in
    (leb-true 21 _ (and_l (leb 21 (get_or cs i 0)) _ r), leb-true _ 48 (and_r (leb 21 (get_or cs i 0)) _ r))

pub on_air_lem : (cs : List ℕ) (x : ℕ) → on_air cs x ≡ covered_by cs x
unfolding covered_by
on_air_lem [] x = sym (any_none _)
on_air_lem (c ∷ cs) x = refl
