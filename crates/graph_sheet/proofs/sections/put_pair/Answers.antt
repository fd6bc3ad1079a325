-- `graph_sheet::sections::put_pair` meets its contract.
use native.Mathlib.Omega.{arith}
use Rattle.vset.specs.Words.{has}
use Rattle.dimacs.specs.Made.{joined}
use Rattle.graph_sheet.proofs.Pairing.{in_joined}
use Rattle.graph_sheet.proofs.PairWriting.{pair_no, pair_yes}
use Rattle.graph_sheet.proofs.sections.put_pair.Goals as goal

pub overflow_add-p : goal.overflow_add-p
overflow_add-p c =
    omega arith

pub overflow_add-p-2 : goal.overflow_add-p-2
overflow_add-p-2 c =
    omega arith

pub is_joined-requires : goal.is_joined-requires
is_joined-requires c =
    let A = c.requires.1 in
    (c.requires.0, omega arith, omega arith)

pub returns-then-not-is_joined : goal.returns-then-not-is_joined
returns-then-not-is_joined c =
    let A = c.requires.1 in
    let E = has c.args.codes.now in
    let n = c.args.n in
    let p = c.args.p in
    let x = c.args.x in
    let y = c.args.y in
    let joins = in_joined E n p x y (omega arith) (omega arith) c.is_joined.ensures in
    (pair_no (joined n E) p x y _ joins c.if-not-is_joined.true, omega arith)

pub put_halves-requires : goal.put_halves-requires
put_halves-requires c =
    let A = c.requires.1 in
    (omega arith, omega arith, c.requires.4)

pub returns : goal.returns
returns c =
    let A = c.requires.1 in
    let E = has c.args.codes.now in
    let n = c.args.n in
    let p = c.args.p in
    let x = c.args.x in
    let y = c.args.y in
    let w = c.put_halves.ensures in
    let joins = in_joined E n p x y (omega arith) (omega arith) c.is_joined.ensures in
    let yes = c.if-not-is_joined.false in
    (pair_yes (joined n E) p x y joins yes w, omega (arith, w.wrote.end))
