-- `plan::run`: what was read gives the text of the input, and that is what was written.
use Rattle.std.proofs.Common.{rules}
use Rattle.plan.proofs.Read.{read_text, written_text}
use Rattle.plan.proofs.run.Goals as goal

pub returns : goal.returns
returns g c =
    let read = c.in_ok-n.ensures in
    let same = read_text (g.R.Read.remaining c.args.input.now) (g.R.Read.remaining c.read_full.new.input) c.in_ok-n.n
    c.read_full.new.buffer (search rules) read.within read.bytes read.end in
    written_text _ _ _ _ _ same c.print.ensures
