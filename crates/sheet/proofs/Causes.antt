-- Laws of causes, and of `unless` and `passing`: a cause where a test fails.
use Rattle.std.proofs.Common.{ℕ, ◌≤◌, ◌<◌, ◌≡◌, refl, sym, Bool, true, false, arith}
use Rattle.sheet.specs.Refusal.{cause_number, unless, passing}
use Rattle.sheet.specs.declared.Cause.{Cause}
use Rattle.sheet.specs.declared.Cause.TheVariants.{Form, Links, Counts, Offsets}
use Rattle.sheet.specs.declared.Cause.TheVariants.{LinkRow, Width, Frequency, RuleRow, PairRow}

pub unless_true : (b : Bool) (c : ℕ) → b ≡ true → 0 ≡ unless b c
unfolding unless
unless_true b c e = rw e

pub unless_false : (b : Bool) (c : ℕ) → b ≡ false → c ≡ unless b c
unfolding unless
unless_false b c e = rw e

pub unless_zero : (b : Bool) (c : ℕ) → 0 < c → unless b c ≡ 0 → b ≡ true
unfolding unless
unless_zero true c h e = refl
unless_zero false c h e = absurd (omega arith)

-- no cause has a number above 16, and none has 0
pub cause_most : (x : Cause) → cause_number x ≤ 16
cause_most Form = omega arith
cause_most Links = omega arith
cause_most Counts = omega arith
cause_most Offsets = omega arith
cause_most LinkRow = omega arith
cause_most Width = omega arith
cause_most Frequency = omega arith
cause_most RuleRow = omega arith
cause_most PairRow = omega arith

pub cause_some : (x : Cause) → 0 < cause_number x
cause_some Form = omega arith
cause_some Links = omega arith
cause_some Counts = omega arith
cause_some Offsets = omega arith
cause_some LinkRow = omega arith
cause_some Width = omega arith
cause_some Frequency = omega arith
cause_some RuleRow = omega arith
cause_some PairRow = omega arith

-- a reading with a cause, of two tests that fail with c and d: it is the cause of these tests, whatever comes after
pub refused_is : (x : Cause) (a b : Bool) (c d : ℕ) (after : Unit {0} → ℕ)
    → cause_number x ≡ (passing a c λ _. unless b d) → cause_number x ≡ (passing a c λ _. passing b d after)
unfolding unless
refused_is x true true c d after h = let z = cause_some x in absurd (omega arith)
refused_is x true false c d after h = h
refused_is x false b c d after h = h

-- a step of a chain of causes that ends in 0
pub passed : (b : Bool) (c : ℕ) (after : Unit {0} → ℕ) → 0 < c → passing b c after ≡ 0 → (b ≡ true) × (after tt ≡ 0)
passed true c after h e = (refl, e)
passed false c after h e = absurd (omega arith)

-- the link section with no cause: its rows and its widths are right
pub links_passed : (a b : Bool) → 0 ≡ (passing a 5 λ _. unless b 16) → (a ≡ true) × (b ≡ true)
links_passed a b e = let p = passed a 5 _ (omega arith) (sym e) in (p.0, unless_zero b 16 (omega arith) p.1)

-- the largest number of a chain of causes
pub passing_most : (b : Bool) (c m : ℕ) (after : Unit {0} → ℕ) → c ≤ m → after tt ≤ m → passing b c after ≤ m
passing_most true c m after h g = g
passing_most false c m after h g = h

pub unless_most : (b : Bool) (c m : ℕ) → c ≤ m → unless b c ≤ m
unfolding unless
unless_most true c m h = omega arith
unless_most false c m h = h
