-- What a program that reads more bytes of its input than any sheet has prints.
use Rattle.std.proofs.Common.{◌≡◌, ℕ, ◌≤◌, ◌<◌, ◌⊎◌, inl, inr, List, ◌++◌, Option, Some, None, IfSome, Result, OnOk, arith, length, take, refl, sym, ap, ◌∙◌, subst, append-nil}
use Rattle.std.proofs.lemmas.Bool.{cases_lt}
use Rattle.std.proofs.lemmas.List.{length-append}
use Rattle.std.proofs.lemmas.Result.{on_ok_weaker}
use Rattle.std.specs.Io.KnownBytes.{Appends, Consumes, IsAtEnd}
use lib.Seq.{take-append_seam, length-take-le}
use Rattle.text.specs.Text.{printed}
use Rattle.text.specs.Written.{printed_in}
use Rattle.text.proofs.Longer.{same_text}

-- there is room for any text
roomy : (s : List ℕ) → printed_in 2048 s ≡ printed s
unfolding printed_in
roomy s = refl

-- the first m bytes of a long input give the text of the whole
first_text : (m : ℕ) (read rest : List ℕ) → 62120 < m → length read ≡ m → printed read ≡ printed (read ++ rest)
first_text m read rest long h =
    let within : m ≤ length (read ++ rest) = omega (arith, h, length-append read rest) in
    let front : take m (read ++ rest) ≡ read =
    ap (λ i. take i (read ++ rest)) (sym h) ∙ take-append_seam read rest in
    ap printed (sym front) ∙ same_text (read ++ rest) m long within

-- what was read gives the text of the input
pub read_text : (a b : Option (List ℕ)) (n : ℕ) (buffer : List ℕ) → 62120 < length buffer → n ≤ length buffer
    → Consumes a b (take n buffer) → (n < length buffer → IsAtEnd b)
    → IfSome a (λ s. printed_in 2048 (take n buffer) ≡ printed s)
read_text None b n buffer full within taken end = tt
read_text (Some s) None n buffer full within taken end = absurd taken
read_text (Some s) (Some rest) n buffer full within taken end =
    let read = take n buffer in
    roomy read ∙ go (cases_lt n (length buffer))
  where
    go : (n < length buffer) ⊎ (length buffer ≤ n) → printed (take n buffer) ≡ printed s
    go (inl few) =
        let none = end few in
        ap printed (sym (taken ∙ ap (λ l. take n buffer ++ l) none ∙ append-nil (take n buffer)))
    go (inr all) =
        let long : 62120 < n = omega (arith, full, all) in
        first_text n (take n buffer) rest long (length-take-le n buffer within) ∙ ap printed (sym taken)

-- and what was written is the text of the input
pub written_text : {T E : Type 0} (r : Result T E) (a w v : Option (List ℕ)) (text : List ℕ)
    → IfSome a (λ s. text ≡ printed s) → OnOk r (Appends w v text) → OnOk r (IfSome a (λ s. Appends w v (printed s)))
written_text r None w v text same h = on_ok_weaker r (λ x. tt) h
written_text r (Some s) w v text same h = on_ok_weaker r (subst (Appends w v) same) h
