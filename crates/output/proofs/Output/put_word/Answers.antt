-- A word that fits is copied to its place, and one past the end is counted.
use Rattle.std.proofs.Common.{◌≡◌, refl, arith, ◌+◌, ◌-◌, length}
use Rattle.output.proofs.Wrote.{wrote_word, past_word}
use Rattle.output.proofs.Output.put_word.Goals as goal

pub returns-then-end-self : goal.returns-then-end-self
returns-then-end-self c =
    let n : c.args.self.now.end + length c.args.word.now - c.args.self.now.end ≡ length c.args.word.now = omega arith in
    record { same = refl; wrote = rw (n, c.copy_from_slice.ensures.after) (wrote_word _ _ _ c.if-end-self.true) }

pub returns-then-self : goal.returns-then-self
returns-then-self c = record { same = refl; wrote = past_word _ _ _ c.if-self.true }
