-- Spacing to spare, "a signed number of half kHz": what a rule of each kind leaves two frequencies, and what is left
-- without one. Nothing of sheets.
use Rattle.std.specs.Prelude.{ℕ, ◌+◌, ◌-◌, ◌*◌, Bool, true, false, cond, ◌&&◌, eqb, ℤ, pos, negsuc}
use Rattle.std.proofs.Math.IntN.{sub_ℕ}
use Rattle.std.specs.Int.Signed.{le_z}

-- how far two frequencies differ, "either one being higher"
unfoldable pub distance : ℕ → ℕ → ℕ
distance x y = (x - y) + (y - x)

-- A number of half kHz, which may be below zero, is what there is less what is asked: `sub_ℕ a b` is a − b. "zero or
-- more means allowed"
unfoldable pub zero_or_more : ℤ → Bool
zero_or_more (pos n) = true
zero_or_more (negsuc n) = false

-- "Kind 1 gives twice (difference − value), in form 2 less both widths", whose sum is `widths`; it is 0 in form 1.
-- "Kind 2 gives minus twice the distance from value. Kind 3 gives 0 or −1", 0 where the pair is listed
unfoldable pub spare_by : ℕ → ℕ → ℕ → ℕ → Bool → ℤ
spare_by kind value widths apart listed =
    cond (eqb kind 1) (sub_ℕ (2 * apart) (2 * value + widths))
    (cond (eqb kind 2) (sub_ℕ 0 (2 * distance apart value))
    (cond (eqb kind 3 && listed) (pos 0) (negsuc 0)))

-- "No rule gives twice the difference, less 1"
unfoldable pub spare_without : ℕ → ℤ
spare_without apart = sub_ℕ (2 * apart) 1

-- the range in an accepted sheet: from −20,039,998 half kHz, one frequency under kind 1 with the largest value and
-- widths, to 19,999,995, the lowest and the highest frequency without a rule
unfoldable pub in_range : ℤ → Bool
in_range z = le_z (negsuc 20039997) z && le_z z (pos 19999995)
