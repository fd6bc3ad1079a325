-- What the caller is handed of what the planner gives.
use Rattle.std.proofs.Common.{◌≡◌, ℕ, ◌+◌, ◌*◌, ◌^◌, List, length, refl, sym, ap, subst, ◌∙◌}
use Rattle.planner.specs.Outcome.{Outcome}
use Rattle.planner.specs.Planned.{Planned, verdict_number, nodes_of, Gives}
use Rattle.byte_calls.specs.ByteCalls.{call_number, cell_bytes, Handed}

pub gives_handed : {o : Outcome} {p : Planned} {cells bytes : List ℕ} {room r : ℕ} → Gives o p cells
    → r ≡ nodes_of p + 2 ^ 32 * verdict_number p → bytes ≡ cell_bytes cells room → Handed o room r bytes
unfolding call_number
gives_handed {room = room} g e b = record {
  number = e ∙ rw (g.answer, g.nodes) refl;
  bytes = b ∙ ap (λ x. cell_bytes x room) g.cells;
}

-- the same of a planner that was called in cells of its own
pub called_handed : (o : ℕ → Outcome) {p : Planned} {lent before left after bytes : List ℕ} {room r : ℕ}
    → lent ≡ before → left ≡ after → Gives (o (length lent)) p left
    → r ≡ nodes_of p + 2 ^ 32 * verdict_number p → bytes ≡ cell_bytes after room → Handed (o (length before)) room r bytes
called_handed o {bytes = bytes} {room} {r} s l g e b = subst (λ x. Handed (o (length x)) room r bytes) s
    (gives_handed g e (b ∙ ap (λ x. cell_bytes x room) (sym l)))
