-- Texts with known answers, as one list. A case that holds computes to true.
use Rattle.std.specs.Prelude.{Bool, true, ◌&&◌, List, [], ◌∷◌, ℕ, T, eqb}
use Prim.Native.String.{String}
use Rattle.sheet.specs.Refusal.{refusal}
use Rattle.lines.specs.Lines.{ascii}
use Rattle.dimacs.specs.Export.{graph_text_of, counts_text_of}
use Rattle.dimacs.specs.Import.{import_cause, imported_sheet}
use Rattle.cases.specs.Cases.{same_list}

-- a graph text and a count text with import's answer for an output of so many bytes; and texts whose sheet is accepted
-- and has just these texts
pub data TextCase : Type 0 where
  imports : String → String → ℕ → ℕ → TextCase
  back_again : String → String → TextCase

abbrev pub text_holds : TextCase → Bool
text_holds (imports g c room r) = eqb (import_cause (ascii g) (ascii c) room) r
text_holds (back_again g c) =
    let s = imported_sheet (ascii g) (ascii c) in
    eqb (refusal s) 0 && same_list (graph_text_of s) (ascii g) && same_list (counts_text_of s) (ascii c)

abbrev pub all_texts_hold : List TextCase → Bool
all_texts_hold [] = true
all_texts_hold (e ∷ es) = text_holds e && all_texts_hold es

-- some, all and none of the pairs of two links; no edge; both orders of an edge; each way to be malformed; the limits;
-- 14; 15
abbrev pub text_cases : List TextCase
text_cases =
    back_again "p edge 4 3\ne 1 3\ne 1 4\ne 2 3\n" "2\n2\n" ∷
    back_again "p edge 4 4\ne 1 3\ne 1 4\ne 2 3\ne 2 4\n" "2\n1\n1\n" ∷
    back_again "p edge 2 0\n" "1\n1\n" ∷
    back_again "p edge 10 2\ne 1 10\ne 2 9\n" "8\n2\n" ∷
    imports "p edge 4 1\ne 3 1\n" "2\n2\n" 80 0 ∷
    imports "p edge 4 1\ne 3 1\n" "2\n2\n" 79 15 ∷
    imports "p edge 2 1\ne 1 2\n" "2\n" 999 14 ∷
    imports "p edge 2 2\ne 1 2\ne 1 2\n" "1\n1\n" 999 14 ∷
    imports "p edge 2 2\ne 1 2\ne 2 1\n" "1\n1\n" 999 14 ∷
    imports "p edge 2 2\ne 1 2\ne 2 1" "1\n1\n" 999 13 ∷
    imports "p edge 2 1\ne 01 2\n" "1\n1\n" 999 13 ∷
    imports "p edge 2 01\ne 1 2\n" "1\n1\n" 999 13 ∷
    imports "p edge 2 1\ne 1  2\n" "1\n1\n" 999 13 ∷
    imports "p edge 2 1\ne 0 2\n" "1\n1\n" 999 13 ∷
    imports "p edge 2 1\ne 1 3\n" "1\n1\n" 999 13 ∷
    imports "p edge 2 0\ne 1 2\n" "1\n1\n" 999 13 ∷
    imports "p edge 3 1\ne 1 2\n" "1\n1\n" 999 13 ∷
    imports "p edge 2 1\ne 1 2\n\n" "1\n1\n" 999 13 ∷
    imports "p edge 2 1\ne 1 2\n" "1\n1" 999 13 ∷
    imports "p edge 1 0\n" "1\n0\n" 999 13 ∷
    imports "p edge 0 0\n" "" 999 13 ∷
    imports "p edge 513 0\n" "256\n257\n" 9999 13 ∷
    imports "" "" 0 13 ∷ []

abbrev pub TextsHold : Type 0
TextsHold = T (all_texts_hold text_cases)
