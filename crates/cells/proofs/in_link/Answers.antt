-- `cells::in_link` meets its contract, by the test of a vertex's link.
use Rattle.std.proofs.Common.{arith}
use Rattle.cells.proofs.Links.{not_in_link, in_link_by}
use Rattle.cells.proofs.in_link.Goals as goal

pub returns-then-v-from : goal.returns-then-v-from
returns-then-v-from c =
    let e = c.link_first-from.ensures.0 in
    not_in_link c.args.sheet.now c.requires.0 c.args.l c.args.v c.requires.1 c.requires.2 (omega arith)

pub returns : goal.returns
returns c =
    let e = c.link_first-from.ensures.0 in
    rw e (in_link_by c.args.sheet.now c.requires.0 c.args.l c.args.v c.requires.1 c.requires.2
    c.link_count.result (omega arith) c.link_count.ensures.0)
