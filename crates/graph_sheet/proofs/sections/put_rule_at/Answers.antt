-- `graph_sheet::sections::put_rule_at` meets its contract.
use Rattle.std.proofs.Common.{ap, is_some, arith, ◌/◌, ◌%◌}
use Rattle.dimacs.proofs.Codes.{first_lt, second_lt}
use Rattle.graph_sheet.proofs.Writing.{rule_length, put_no}
use Rattle.graph_sheet.proofs.sections.put_rule_at.Goals as goal

pub returns-in_default : goal.returns-in_default
returns-in_default c =
    (put_no _ _ (ap is_some c.in_default.is), omega arith)

pub nonzero_div-z : goal.nonzero_div-z
nonzero_div-z c =
    omega (arith, second_lt c.args.k c.args.k c.args.z c.requires.1)

pub nonzero_rem-z : goal.nonzero_rem-z
nonzero_rem-z c =
    omega (arith, second_lt c.args.k c.args.k c.args.z c.requires.1)

pub put_rule-requires : goal.put_rule-requires
put_rule-requires c =
    let second = second_lt c.args.k c.args.k c.args.z c.requires.1 in
    let f = rw c.in-Some.is at (c.requires.2 (ap is_some c.in-Some.is)) in
    let a = first_lt c.args.k c.args.k c.args.z c.requires.1 in
    (omega (arith, a, c.requires.0), omega (arith, second, c.requires.0), f.0, f.1, c.requires.3)

pub returns : goal.returns
returns c =
    let s = c.args in
    let p = c.put_rule.ensures in
    let long = rule_length (s.z / s.k) (s.z % s.k) c.in-Some.pairs s.before in
    rw c.in-Some.is (p, omega (arith, p.wrote.end, long))
