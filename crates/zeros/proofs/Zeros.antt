-- Zeros are as many as were asked for, and each is zero.
use Rattle.std.proofs.Common.{◌≡◌, refl, sym, ap, ◌∙◌, List, ℕ, zero, suc, length, get_or}
use Rattle.std.proofs.Math.ListN.{length-replicate}
use Rattle.zeros.specs.Zeros.{zeros}

-- zeros are as many as before
pub zero_length : (x : List ℕ) (m : ℕ) → x ≡ zeros m → length x ≡ m
unfolding zeros
zero_length x m e = ap length e ∙ length-replicate m 0

pub zero_again : (x : List ℕ) (m : ℕ) → x ≡ zeros m → x ≡ zeros (length x)
zero_again x m e = e ∙ ap zeros (sym (zero_length x m e))

-- each of them is zero, and so is what is read past them
pub zeros_at : (m i : ℕ) → get_or (zeros m) i 0 ≡ 0
unfolding zeros
zeros_at zero i = refl
zeros_at (suc m) zero = refl
zeros_at (suc m) (suc i) = zeros_at m i
