use native.Mathlib.Omega.{arith}
use mathlib.Core.Path.{refl}
use Rattle.graph_sheet.proofs.Pairing.{square_few, links_are, code_below}
use Rattle.graph_sheet.proofs.Ruling.{rows_none, rows_more, rows_done}
use Rattle.graph_sheet.proofs.Marking.{told_by}
use Rattle.graph_sheet.proofs.PairWriting.{pairs_row_put, pairs_put}
use Rattle.graph_sheet.proofs.sections.put_pairs.Goals as goal

pub overflow_mul-most : goal.overflow_mul-most
overflow_mul-most c =
    omega (arith, square_few c.requires.0)

pub loop-z-init : goal.loop-z-init
loop-z-init c =
    (omega arith, rows_none _ _ _)

pub rule_in-r-requires : goal.rule_in-r-requires
rule_in-r-requires c =
    omega (arith, c.requires.1.room)

pub put_pairs_at-requires : goal.put_pairs_at-requires
put_pairs_at-requires c =
    let l = c.loop-z in (
      c.requires.0,
      omega arith,
      told_by _ _ l.z c.requires.1 (omega arith) c.rule_in-r.ensures,
      omega (arith, l.invariant.0, square_few c.requires.0),
    )

pub loop-z-preserved : goal.loop-z-preserved
loop-z-preserved c =
    let l = c.loop-z in
    let p = c.put_pairs_at.ensures in
    let h = code_below c.requires.0 l.z (omega arith) in (
      omega (arith, p.1, l.invariant.0),
      rows_more _ _ l.z _ refl l.invariant.1 (pairs_row_put _ _ l.z h p.0),
    )

pub returns : goal.returns
returns c =
    let l = c.loop-z in
    pairs_put _ _ _ (links_are c.requires.0) (rows_done _ _ l.z _ (omega arith) l.invariant.1)
