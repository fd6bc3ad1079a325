-- How many nodes a tree takes, just: vertices tried in turn, of which none leads to a plan, or only the last that is
-- tried.
use mathlib.Core.Path.{◌≡◌, refl, ap}
use mathlib.Core.Bool.{Bool, true, false}
use Prim.Native.Nat.{ℕ, zero, suc, ◌+◌, ◌*◌, ◌<◌}
use native.Mathlib.Omega.{arith}
use Rattle.sets.specs.Below.{one, count}
use Rattle.sets.specs.Sets.{Set}
use Rattle.sets.proofs.Tests.{clash, below}
use Rattle.search.specs.Tree.{Tree, found, no_plan, plus, choose, and_then, in_turn}
use Rattle.search.proofs.Tree.{more}

-- s nodes and no plan, or one node more and a plan
abbrev pub Takes : Bool → ℕ → Tree → Type 0
Takes true s (found c t) = t ≡ s + 1
Takes true s (no_plan t) = ⊥
Takes false s (found c t) = ⊥
Takes false s (no_plan t) = t ≡ s

pub takes_found : (s : ℕ) (t : Tree) → Takes true s t → (plan : ℕ → ℕ) × (t ≡ found plan (s + 1))
takes_found s (found c t) h = (c, ap (found c) h)
takes_found s (no_plan t) h = absurd h

pub takes_choose : (b : Bool) (s d v : ℕ) (t : Tree) → Takes b s t → Takes b s (choose d v t)
unfolding choose
takes_choose true s d v (found c t) h = h
takes_choose true s d v (no_plan t) h = h
takes_choose false s d v (found c t) h = h
takes_choose false s d v (no_plan t) h = h

pub takes_plus : (b : Bool) (s : ℕ) (t : Tree) → Takes b s t → Takes b (1 + s) (plus 1 t)
unfolding plus
takes_plus true s (found c t) h = omega arith
takes_plus true s (no_plan t) h = h
takes_plus false s (found c t) h = h
takes_plus false s (no_plan t) h = omega arith

-- one more vertex: tried in vain or not at all; tried, and it leads to a plan; not reached
none_more : (c s : ℕ) (a : Tree) (p : Bool) (x : Tree) → Takes false (c * s) a → (p ≡ true → Takes false s x)
    → Takes false ((one p + c) * s) (more a p x)
unfolding plus and_then
none_more c s (found e t) p x h f = absurd h
none_more c s (no_plan t) true (found e u) h f = absurd (f refl)
none_more c s (no_plan t) true (no_plan u) h f = let g = f refl in omega arith
none_more c s (no_plan t) false x h f = omega arith

found_more : (c s : ℕ) (a : Tree) (p : Bool) (x : Tree) → Takes false (c * s) a → p ≡ true → Takes true s x
    → Takes true ((1 + c) * s) (more a p x)
unfolding plus and_then
found_more c s (found e t) p x h o g = absurd h
found_more c s (no_plan t) true (found e u) h o g = omega arith
found_more c s (no_plan t) true (no_plan u) h o g = absurd g
found_more c s (no_plan t) false x h o g = clash false o refl

found_stays : (s : ℕ) (a : Tree) (p : Bool) (x : Tree) → Takes true s a → Takes true s (more a p x)
unfolding and_then
found_stays s (found e t) true x h = h
found_stays s (found e t) false x h = h
found_stays s (no_plan t) p x h = absurd h

module _ (s : ℕ) (f : ℕ → Tree) (p : Set) where
  pub in_turn_none : (m : ℕ) → ((v : ℕ) → v < m → p v ≡ true → Takes false s (f v))
      → Takes false (count m p * s) (in_turn false f p m)
  unfolding in_turn count
  in_turn_none zero h = omega arith
  in_turn_none (suc m) h =
      none_more (count m p) s (in_turn false f p m) (p m) (f m) (in_turn_none m (λ v l. h v (omega arith)))
      (h m (omega arith))

  -- w leads to a plan, and none before it
  pub in_turn_found : (m w : ℕ) → w < m → p w ≡ true → ((v : ℕ) → v < w → p v ≡ true → Takes false s (f v))
      → Takes true s (f w) → Takes true ((1 + count w p) * s) (in_turn false f p m)
  unfolding in_turn
  in_turn_found zero w l e h g = absurd (omega arith)
  in_turn_found (suc m) w l e h g = below w m l
      (λ b. found_stays _ (in_turn false f p m) (p m) (f m) (in_turn_found m w b e h g))
      (λ q. rw (← q) (found_more (count w p) s (in_turn false f p w) (p w) (f w) (in_turn_none w h) e g))
