-- Bytes put into an `Output` one after another.
use Rattle.std.proofs.Common.{◌≡◌, refl, ◌∙◌, ℕ, List, [], ◌++◌}
use Rattle.output.specs.Puts.{Puts}
use Rattle.output.specs.declared.Output.{Output}
use Rattle.output.proofs.Wrote.{wrote_none, wrote_then, wrote_same}

-- nothing, and one piece after another
pub puts_none : (o : Output) → Puts [] o o
puts_none o = record { same = refl; wrote = wrote_none o.bytes.now o.end }

pub puts_then : {a b : List ℕ} {o p q : Output} → Puts a o p → Puts b p q → Puts (a ++ b) o q
puts_then x y = record { same = y.same ∙ x.same; wrote = wrote_then x.wrote y.wrote }

pub puts_same : {a b : List ℕ} {o p : Output} → a ≡ b → Puts a o p → Puts b o p
puts_same e x = record { same = x.same; wrote = wrote_same e x.wrote }
