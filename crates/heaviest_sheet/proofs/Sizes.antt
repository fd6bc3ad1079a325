-- The test of k and m, and what it says.
use mathlib.Core.Path.{◌≡◌}
use mathlib.Core.Bool.{true, ◌&&◌}
use Prim.Native.Nat.{ℕ, ◌*◌}
use lib.Dec.{ltb, leb}
use borrow.Author.Tests.{ltb-true, leb-true}
use Rattle.sets.proofs.Tests.{and_l, and_r}
use Rattle.heaviest_sheet.specs.Call.{sizes_ok, SizesFit}

pub sizes : (k m : ℕ) → sizes_ok k m ≡ true → SizesFit k m
unfolding sizes_ok
sizes k m h =
    let a = and_l (ltb 0 k && ltb 0 m) _ h in
    let b = and_r (ltb 0 k && ltb 0 m) _ h in
    record {
      k_some = ltb-true 0 k (and_l (ltb 0 k) (ltb 0 m) a);
      m_some = ltb-true 0 m (and_r (ltb 0 k) (ltb 0 m) a);
      k_few = leb-true k _ (and_l (leb k _) _ b);
      few = leb-true (k * m) _ (and_r (leb k _) _ b);
    }
