use Rattle.std.proofs.Common.{arith}
use Rattle.graph_sheet.proofs.Pairing.{square_few, links_are, code_below}
use Rattle.graph_sheet.proofs.Ruling.{tally_none, tally_more}
use Rattle.graph_sheet.proofs.Marking.{marked_none, marked_more, marked_all}
use Rattle.graph_sheet.proofs.marks.mark_rules.Goals as goal

pub overflow_mul-most : goal.overflow_mul-most
overflow_mul-most c =
    omega (arith, square_few c.requires.0)

pub loop-z-init : goal.loop-z-init
loop-z-init c =
    (marked_none _ _ _, tally_none _ _)

pub mark_of-requires : goal.mark_of-requires
mark_of-requires c =
    c.rule_at-r.ensures.few

pub bounds-marks-z : goal.bounds-marks-z
bounds-marks-z c =
    omega (arith, square_few c.requires.0)

pub tallied-t-requires : goal.tallied-t-requires
tallied-t-requires c =
    let T = c.loop-z.invariant.1 in
    let few = square_few c.requires.0 in
    (omega (arith, few, T.rules_few), omega (arith, few, T.pairs_few), c.rule_at-r.ensures.few)

pub loop-z-preserved : goal.loop-z-preserved
loop-z-preserved c =
    let l = c.loop-z in
    let R = c.rule_at-r.ensures in
    let few = square_few c.requires.0 in
    let h = code_below c.requires.0 l.z (omega arith) in (
      marked_more _ _ l.z _ (omega (arith, few)) l.invariant.0 R c.mark_of.ensures,
      tally_more _ _ l.z h l.invariant.1 R c.tallied-t.ensures,
    )

pub returns : goal.returns
returns c =
    let l = c.loop-z in
    let G = c.requires.0 in
    marked_all _ _ _ l.z (links_are G) G.graph.links.links (omega arith) l.invariant.0 l.invariant.1
