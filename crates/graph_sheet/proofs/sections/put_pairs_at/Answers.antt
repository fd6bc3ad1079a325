-- `graph_sheet::sections::put_pairs_at` meets its contract.
use Rattle.std.proofs.Common.{ap, ◌∙◌, is_some, unwrap_or, arith}
use Rattle.graph_sheet.proofs.Pairing.{links_are, first_below, second_below, codes_fit, among}
use Rattle.graph_sheet.proofs.PairWriting.{pairs_at_no, pairs_at_none, pairs_at_yes}
use Rattle.graph_sheet.proofs.sections.put_pairs_at.Goals as goal

pub returns-in_default : goal.returns-in_default
returns-in_default c =
    (pairs_at_no _ _ c.args.z c.requires.2 _ (ap is_some c.in_default.is), omega arith)

pub returns-then-pairs-eq0 : goal.returns-then-pairs-eq0
returns-then-pairs-eq0 c =
    let none = ap (λ o. unwrap_or o 0) c.in-Some.is ∙ c.if-pairs-eq0.true in
    (pairs_at_none _ _ c.args.z c.requires.2 _ (ap is_some c.in-Some.is) none, omega arith)

pub nonzero_div-z : goal.nonzero_div-z
nonzero_div-z c =
    omega (arith, c.requires.0.graph.links.some)

pub nonzero_rem-z : goal.nonzero_rem-z
nonzero_rem-z c =
    omega (arith, c.requires.0.graph.links.some)

pub two_links-p-requires : goal.two_links-p-requires
two_links-p-requires c =
    let G = c.requires.0 in
    let z = c.args.z in
    (G.graph.links, G.starts, first_below G z c.requires.1, second_below G z c.requires.1)

pub put_joined-requires : goal.put_joined-requires
put_joined-requires c =
    let G = c.requires.0 in
    let z = c.args.z in
    (codes_fit G, among G z c.requires.1 c.two_links-p.ensures, c.requires.3)

pub returns : goal.returns
returns c =
    let z = c.args.z in
    let p = c.put_joined.ensures in
    let k = links_are c.requires.0 in
    (pairs_at_yes _ _ z c.requires.2 _ k (ap is_some c.in-Some.is) c.two_links-p.ensures p.0, p.1)
