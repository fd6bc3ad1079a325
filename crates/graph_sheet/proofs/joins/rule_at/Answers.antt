-- `graph_sheet::joins::rule_at` meets its contract.
use native.Mathlib.Omega.{arith}
use mathlib.Core.Path.{refl}
use Rattle.graph_sheet.proofs.Pairing.{links_are, first_below, second_below, codes_fit, among, area_few}
use Rattle.graph_sheet.proofs.Pairing.{rule_not, rule_counted}
use Rattle.graph_sheet.proofs.joins.rule_at.Goals as goal

pub nonzero_div-a : goal.nonzero_div-a
nonzero_div-a c =
    omega (arith, c.requires.0.graph.links.some)

pub nonzero_rem-b : goal.nonzero_rem-b
nonzero_rem-b c =
    omega (arith, c.requires.0.graph.links.some)

pub returns-then-a-b : goal.returns-then-a-b
returns-then-a-b c =
    rule_not _ _ c.args.s.links _ (links_are c.requires.0) c.if-a-b.true

pub two_links-p-requires : goal.two_links-p-requires
two_links-p-requires c =
    let G = c.requires.0 in
    let z = c.args.z in
    (G.graph.links, G.starts, first_below G z c.requires.1, second_below G z c.requires.1)

pub pair_count-pairs-requires : goal.pair_count-pairs-requires
pair_count-pairs-requires c =
    let G = c.requires.0 in
    let z = c.args.z in
    (codes_fit G, among G z c.requires.1 c.two_links-p.ensures)

pub overflow_mul-most : goal.overflow_mul-most
overflow_mul-most c =
    omega (arith, area_few (among c.requires.0 c.args.z c.requires.1 c.two_links-p.ensures))

pub returns : goal.returns
returns c =
    let z = c.args.z in
    let k = links_are c.requires.0 in
    let T = c.two_links-p.ensures in
    let P = c.pair_count-pairs.ensures in
    rw c.then_some.ensures (rule_counted _ _ c.args.s.links z k c.if-a-b.false T P _ refl)
