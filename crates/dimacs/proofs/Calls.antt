-- What the calls leave in their outputs, where they succeed.
use mathlib.Core.Path.{◌≡◌, refl, sym, ap, ◌∙◌}
use mathlib.Core.Bool.{Bool, true, false}
use mathlib.Core.List.{List}
use Prim.Native.Nat.{ℕ}
use lib.Dec.{eqb}
use lib.ListN.{length, take}
use lib.Seq.{take_at}
use borrow.Author.Tests.{eqb-true, eqb-false}
use Rattle.sets.proofs.Tests.{bool}
use Rattle.sheet.specs.Refusal.{refusal, passing}
use Rattle.output.specs.Output.{padded}
use Rattle.dimacs.specs.Export.{graph_text_of, counts_text_of, export_cause, ExportOutcome, exported}
use Rattle.dimacs.specs.Import.{import_cause, imported_sheet, ImportOutcome, import_of, imported}
use Rattle.dimacs.specs.RoundTrip.{graph_sent, counts_sent, sheet_made}
use Rattle.dimacs.proofs.Choices.{yes_is, no_is}

front_padded : (text : List ℕ) (m : ℕ) → take (length text) (padded text m) ≡ text
unfolding padded
front_padded text m = take_at text _ (length text) refl

-- an export that succeeds: of an accepted sheet, its two texts
pub record Sent (s : List ℕ) (g c : ℕ) : Type 0 where
  pub accepted : refusal s ≡ 0
  pub graph : graph_sent (exported s g c) ≡ graph_text_of s
  pub counts : counts_sent (exported s g c) ≡ counts_text_of s

pub sent : (s : List ℕ) (g c : ℕ) → (exported s g c).answer ≡ 0 → Sent s g c
unfolding exported export_cause
sent s g c e = bool (eqb (export_cause s g c) 0) yes no
  where
    accepted_by : (b : Bool) (r : ℕ) (after : Unit {0} → ℕ) → eqb r 0 ≡ b → passing b r after ≡ 0 → r ≡ 0
    accepted_by true r after t q = eqb-true r 0 t
    accepted_by false r after t q = q

    open_cause : export_cause s g c ≡ 0 → refusal s ≡ 0
    open_cause q = accepted_by (eqb (refusal s) 0) (refusal s) _ refl q

    yes : eqb (export_cause s g c) 0 ≡ true → Sent s g c
    yes t =
        let o = yes_is (eqb (export_cause s g c) 0) _ _ t in
        record {
          accepted = open_cause (eqb-true (export_cause s g c) 0 t);
          graph = ap graph_sent o ∙ front_padded (graph_text_of s) g;
          counts = ap counts_sent o ∙ front_padded (counts_text_of s) c;
        }

    no : eqb (export_cause s g c) 0 ≡ false → Sent s g c
    no t = absurd (eqb-false (export_cause s g c) 0 t
        (sym (ap (λ (o : ExportOutcome). o.answer) (no_is (eqb (export_cause s g c) 0) _ _ t)) ∙ e))

-- an import that succeeds: the sheet of the texts
pub record Received (text counts : List ℕ) (room : ℕ) : Type 0 where
  pub fine : import_cause text counts room ≡ 0
  pub sheet : sheet_made (imported text counts room) ≡ imported_sheet text counts

pub received : (text counts : List ℕ) (room : ℕ) → (imported text counts room).answer ≡ 0 → Received text counts room
unfolding imported import_of import_cause imported_sheet
received text counts room e = bool (eqb (import_cause text counts room) 0) yes no
  where
    yes : eqb (import_cause text counts room) 0 ≡ true → Received text counts room
    yes t = record {
      fine = eqb-true (import_cause text counts room) 0 t;
      sheet = ap sheet_made (yes_is (eqb (import_cause text counts room) 0) _ _ t)
          ∙ front_padded (imported_sheet text counts) room;
    }

    no : eqb (import_cause text counts room) 0 ≡ false → Received text counts room
    no t = absurd (eqb-false (import_cause text counts room) 0 t
        (sym (ap (λ (o : ImportOutcome). o.answer) (no_is (eqb (import_cause text counts room) 0) _ _ t)) ∙ e))
