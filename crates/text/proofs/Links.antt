-- The lines of the links: none, one more, and all; and after another text.
use mathlib.Core.Path.{◌≡◌, sym, ap, subst, ◌∙◌}
use mathlib.Core.List.{List, [], ◌++◌, append-nil, append_assoc}
use Prim.Native.Nat.{ℕ, zero, suc, ◌+◌, ◌≤◌}
use native.Mathlib.Numerals.{add-one}
use native.Mathlib.Omega.{arith}
use lib.ListN.{get_or}
use Rattle.sets.specs.Below.{loop}
use Rattle.output.specs.declared.Output.{Output}
use Rattle.output.specs.Puts.{Puts}
use Rattle.output.proofs.Puts.{puts_none, puts_then}
use Rattle.lines.specs.Lines.{decimal, line}
use Rattle.text.specs.Text.{link_lines}
use Rattle.text.specs.Written.{PutLines}

pub lines_none : (cells : List ℕ) (o : Output) → PutLines 0 cells o o
unfolding link_lines loop
lines_none cells o = record { few = omega arith; put = puts_none o }

pub lines_more : {l : ℕ} {cells : List ℕ} {o p q : Output} → PutLines l cells o p
    → Puts (line (decimal l) (get_or cells l 0)) p q → q.end ≤ p.end + 22 → PutLines (l + 1) cells o q
unfolding link_lines loop
lines_more {l} {cells} a b h = record {
  few = omega (arith, a.few);
  put = rw add-one (puts_then a.put b);
}

pub lines_done : {l k : ℕ} {cells : List ℕ} {o p : Output} → l ≡ k → PutLines l cells o p → PutLines k cells o p
lines_done {l} {k} {cells} {o} {p} h a = subst (λ x. PutLines x cells o p) h a

-- the lines after a text
pub lines_after : (k : ℕ) (cells t : List ℕ) → t ++ link_lines k cells [] ≡ link_lines k cells t
unfolding link_lines loop
lines_after zero cells t = append-nil t
lines_after (suc k) cells t =
    sym (append_assoc t (link_lines k cells []) (line (decimal k) (get_or cells k 0)))
    ∙ ap (λ x. x ++ line (decimal k) (get_or cells k 0)) (lines_after k cells t)
