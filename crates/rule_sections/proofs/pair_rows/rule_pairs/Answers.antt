-- `rule_sections::pair_rows::rule_pairs` meets its contract.
use Rattle.std.proofs.Common.{ℕ, ◌<◌, List, arith}
use Rattle.sets.proofs.Below.{all_none}
use Rattle.sheet_rows.proofs.Rows.{has_link}
use Rattle.rule_sections.specs.Read.{RuleRead}
use Rattle.rule_sections.specs.Rules.{listed, rule_pairs_ok}
use Rattle.rule_sections.proofs.RuleRows.{RuleIn, rule_in_lem}
use Rattle.rule_sections.proofs.pair_rows.rule_pairs.Goals as goal

-- what the sections before say of the rule
row_in : {s rs ps : List ℕ} {j : ℕ} (h : RuleRead s rs ps j) → RuleIn rs h.read.k h.read.t j
row_in {rs = rs} {j = j} h = rule_in_lem rs h.read.k h.q h.read.t j h.read.rules h.among

pub returns-then-count-eq0 : goal.returns-then-count-eq0
unfolding rule_pairs_ok
returns-then-count-eq0 c = rw (← c.listed-count.ensures.0, c.if-count-eq0.true, all_none)

pub link_count-m-requires : goal.link_count-m-requires
link_count-m-requires c =
    let row = row_in c.requires in
    let read = c.requires.read in
    has_link c.args.s.now read.k _ read.has_link_rows (omega arith)

pub link_count-n-requires : goal.link_count-n-requires
link_count-n-requires c =
    let row = row_in c.requires in
    let read = c.requires.read in
    has_link c.args.s.now read.k _ read.has_link_rows (omega arith)

pub pairs_rise-requires : goal.pairs_rise-requires
pairs_rise-requires c =
    let row = row_in c.requires in
    let some : 0 < listed c.args.rs.now c.args.j = omega arith in
    omega (arith, row.pairs some)

pub returns : goal.returns
unfolding rule_pairs_ok
returns c = cc
