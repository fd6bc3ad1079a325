-- `text::put_text` meets its contract.
use mathlib.Core.Path.{refl}
use native.Mathlib.Omega.{arith}
use Rattle.text.specs.Text.{printed}
use Rattle.text.proofs.Holding.{same_holds}
use Rattle.text.proofs.Answers.{printed_room, printed_no_room}
use Rattle.text.proofs.put_text.Goals as goal

pub returns-then-text-lt1425 : goal.returns-then-text-lt1425
returns-then-text-lt1425 c =
    let s = c.args.sheet.now in
    record { within = omega arith; same = printed_no_room _ s (omega arith); rest = refl }

pub returns : goal.returns
unfolding printed
returns c =
    let s = c.args.sheet.now in
    same_holds (printed_room _ s (omega arith)) c.put_planned.ensures
