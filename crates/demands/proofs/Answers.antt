-- An answer under a limit, by cases.
use mathlib.Core.Path.{◌≡◌, refl}
use Prim.Native.Nat.{ℕ, ◌≤◌, ◌<◌}
use lib.Dec.{leb}
use borrow.Author.Tests.{leb-true, leb-false}
use Rattle.sets.proofs.Tests.{case}
use Rattle.search.specs.Tree.{Tree, found, no_plan, nodes}
use Rattle.search.specs.Limit.{Answer, plan, none, stopped, answer}

pub answer_case : (P : Answer → Type 0) (l : ℕ) (t : Tree)
    → ((c : ℕ → ℕ) (s : ℕ) → t ≡ found c s → s ≤ l → P (plan c s))
    → ((s : ℕ) → t ≡ no_plan s → s ≤ l → P (none s))
    → (l < nodes t → P (stopped l)) → P (answer l t)
answer_case P l (found c s) f g h =
    case P (leb s l) (plan c s) (stopped l) (λ e. f c s refl (leb-true s l e)) (λ e. h (leb-false s l e))
answer_case P l (no_plan s) f g h =
    case P (leb s l) (none s) (stopped l) (λ e. g s refl (leb-true s l e)) (λ e. h (leb-false s l e))
