-- A text that was put from the start of a slice that has room for it.
use mathlib.Core.Path.{◌≡◌, sym, ap, ◌∙◌}
use mathlib.Core.List.{List, ◌++◌}
use Prim.Native.Nat.{ℕ, ◌≤◌}
use native.Mathlib.Omega.{arith}
use lib.ListN.{length, take, drop}
use lib.Seq.{take_at, drop_at}
use Rattle.output.specs.Output.{Wrote}
use Rattle.output.proofs.Wrote.{over_fits, wrote_over}
use Rattle.text.specs.Written.{Holds}

pub wrote_holds : {a l m : List ℕ} {r : ℕ} → r ≤ length l → Wrote a l 0 m r → Holds a l m r
wrote_holds {a} {l} {m} {r} h p = record {
  within = omega (arith, p.size);
  same = ap (take r) e ∙ take_at a (drop (length a) l) r f;
  rest = ap (drop r) e ∙ drop_at a (drop (length a) l) r f ∙ ap (λ x. drop x l) f;
}
  where
    f : length a ≡ r
    f = omega (arith, p.end)

    e : m ≡ a ++ drop (length a) l
    e = wrote_over p ∙ over_fits a l (omega arith)

pub same_holds : {a b before left : List ℕ} {r : ℕ} → a ≡ b → Holds b before left r → Holds a before left r
same_holds e h = record { within = h.within; same = h.same ∙ sym e; rest = h.rest }
