-- The text of an answer, by its number.
use mathlib.Core.Path.{◌≡◌, sym, ap, ◌∙◌}
use mathlib.Core.Bool.{cond}
use mathlib.Core.List.{[], List}
use Prim.Native.Nat.{ℕ, ◌≤◌, ◌<◌}
use native.Mathlib.Omega.{arith}
use lib.ListN.{length}
use borrow.Author.Tests.{ne_eqb, le-leb, lt-leb}
use Rattle.planner.specs.Outcome.{Outcome}
use Rattle.output.specs.declared.Output.{Output}
use Rattle.output.specs.Puts.{Puts}
use Rattle.output.proofs.Puts.{puts_then, puts_same}
use Rattle.lines.specs.Lines.{ascii, line}
use Rattle.text.specs.Text.{found_text, printed_of, printed}
use Rattle.text.specs.Written.{PutLines, most_bytes, printed_in}
use Rattle.text.proofs.Links.{lines_after}

module _ (k : ℕ) (o : Outcome) where
  pub printed_found : o.answer ≡ 100 → printed_of k o ≡ found_text k o
  unfolding printed_of
  printed_found e = rw (e, printed_of)

  pub printed_none : o.answer ≡ 101 → printed_of k o ≡ line (ascii "none") o.nodes
  unfolding printed_of
  printed_none e = rw (e, e, printed_of)

  pub printed_stopped : o.answer ≡ 102 → printed_of k o ≡ line (ascii "stopped") o.nodes
  unfolding printed_of
  printed_stopped e = rw (e, e, e, printed_of)

  pub printed_refused : (o.answer ≡ 100 → ⊥) → (o.answer ≡ 101 → ⊥) → (o.answer ≡ 102 → ⊥)
      → printed_of k o ≡ line (ascii "refused") o.answer
  unfolding printed_of
  printed_refused f g h = rw (ne_eqb o.answer 100 f, ne_eqb o.answer 101 g, ne_eqb o.answer 102 h, printed_of)

  -- the first line and the links' lines
  pub found_put : {before first left : Output} → o.answer ≡ 100 → Puts (line (ascii "found") o.nodes) before first
      → PutLines k o.cells first left → Puts (printed_of k o) before left
  found_put e p q =
      puts_same (lines_after k o.cells (line (ascii "found") o.nodes) ∙ sym (printed_found e)) (puts_then p q.put)

-- no other text names a link
pub printed_any : (o : Outcome) (k j : ℕ) → (o.answer ≡ 100 → ⊥) → printed_of k o ≡ printed_of j o
unfolding printed_of
printed_any o k j f = rw (ne_eqb o.answer 100 f, printed_of)

-- room for any text, or for none
pub printed_room : (m : ℕ) (s : List ℕ) → most_bytes ≤ m → printed_in m s ≡ printed s
unfolding printed_in
printed_room m s h = ap (λ b. cond b (printed s) []) (le-leb most_bytes m h)

pub printed_no_room : (m : ℕ) (s : List ℕ) → m < most_bytes → [] ≡ printed_in m s
unfolding printed_in
printed_no_room m s h = sym (ap (λ b. cond b (printed s) []) (lt-leb most_bytes m h))
