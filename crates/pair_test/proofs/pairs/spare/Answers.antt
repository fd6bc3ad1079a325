-- The lower of the two links comes first; turned round, the test is the same.
use Rattle.std.proofs.Common.{sym, ◌∙◌, arith}
use Rattle.spacing.proofs.Spacing.{read_back}
use Rattle.pair_test.proofs.Pairing.{spare_turned}
use Rattle.pair_test.proofs.pairs.spare.Goals as goal

pub find_rule-requires : goal.find_rule-requires
find_rule-requires c =
    c.requires.accepted

pub spare_at-requires : goal.spare_at-requires
spare_at-requires c =
    let h = c.requires in
    record {
      accepted = h.accepted;
      order = c.if-a-b.true;
      within = h.link_b;
      sought = c.find_rule.ensures;
      in_a = h.in_a;
      in_b = h.in_b;
    }

pub returns-then-a-b : goal.returns-then-a-b
returns-then-a-b c =
    read_back c.spare_at.type_inv c.spare_at.ensures

pub find_rule-requires-2 : goal.find_rule-requires-2
find_rule-requires-2 c =
    c.requires.accepted

pub spare_at-requires-2 : goal.spare_at-requires-2
spare_at-requires-2 c =
    let h = c.requires in
    record {
      accepted = h.accepted;
      order = omega (arith, h.apart);
      within = h.link_a;
      sought = c.find_rule-2.ensures;
      in_a = h.in_b;
      in_b = h.in_a;
    }

pub returns : goal.returns
returns c =
    let h = c.requires in
    let a = c.args in
    read_back c.spare_at-2.type_inv
    (c.spare_at-2.ensures ∙ sym (spare_turned _ _ _ _ _ a.a a.b a.u a.v h.apart))
