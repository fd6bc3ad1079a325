use Rattle.std.proofs.Common.{arith}
use Rattle.graph_sheet.proofs.Ruling.{rows_none, rows_more, rows_done, tally_none, tally_more}
use Rattle.graph_sheet.proofs.Marking.{below_square, few_square, few_told}
use Rattle.graph_sheet.proofs.Writing.{rule_row_put, rule_small, rules_put}
use Rattle.graph_sheet.proofs.sections.put_rules.Goals as goal

pub overflow_mul-most : goal.overflow_mul-most
overflow_mul-most c =
    omega (arith, few_square c.requires.0.are)

pub loop-z-init : goal.loop-z-init
loop-z-init c =
    (omega arith, λ cs adj F. (tally_none cs adj, rows_none _ _ _))

pub rule_in-r-requires : goal.rule_in-r-requires
rule_in-r-requires c =
    let F = c.requires.0.are in
    omega (arith, below_square F c.loop-z.z (omega arith), F.marked.room)

pub put_rule_at-requires : goal.put_rule_at-requires
put_rule_at-requires c =
    let l = c.loop-z in
    let G = c.requires.0 in
    let F = G.are in
    let h = below_square F l.z (omega arith) in
    let R = few_told F l.z (omega arith) c.rule_in-r.ensures in
    let T = (l.invariant.1 G.cs G.adj F).0 in (
      F.links_few,
      omega arith,
      rule_small G.cs G.adj l.z h R T F.pairs_few,
      omega (arith, l.invariant.0, few_square F),
    )

pub tallied-t-requires : goal.tallied-t-requires
tallied-t-requires c =
    let l = c.loop-z in
    let G = c.requires.0 in
    let R = few_told G.are l.z (omega arith) c.rule_in-r.ensures in
    let T = (l.invariant.1 G.cs G.adj G.are).0 in
    let square = few_square G.are in
    (omega (arith, square, T.rules_few), omega (arith, square, T.pairs_few), R.few)

pub loop-z-preserved : goal.loop-z-preserved
loop-z-preserved c =
    let l = c.loop-z in
    let p = c.put_rule_at.ensures in (
      omega (arith, p.1, l.invariant.0),
      λ cs adj F.
          let h = below_square F l.z (omega arith) in
          let R = few_told F l.z (omega arith) c.rule_in-r.ensures in
          let i = l.invariant.1 cs adj F in
          let row = rule_row_put cs adj l.z h R i.0 _ F.links p.0 in
          (tally_more cs adj l.z h i.0 R c.tallied-t.ensures, rows_more _ _ l.z _ R.ruled i.1 row),
    )

pub returns : goal.returns
returns c =
    let l = c.loop-z in (
      λ cs adj F. rules_put cs adj _ F.links (rows_done _ _ l.z _ (omega arith) (l.invariant.1 cs adj F).1),
      omega (arith, l.invariant.0, few_square c.requires.0.are),
    )
