use Rattle.std.proofs.Common.{arith}
use Rattle.text.proofs.Links.{lines_none, lines_more, lines_done}
use Rattle.text.proofs.link_lines.put_link_lines.Goals as goal

pub loop-l-init : goal.loop-l-init
loop-l-init c = lines_none _ _

pub put_link_line-requires : goal.put_link_line-requires
put_link_line-requires c = omega (arith, c.loop-l.invariant.few)

pub loop-l-preserved : goal.loop-l-preserved
loop-l-preserved c =
    lines_more c.loop-l.invariant c.put_link_line.ensures.0 c.put_link_line.ensures.1

pub returns : goal.returns
returns c =
    lines_done (omega arith) c.loop-l.invariant
