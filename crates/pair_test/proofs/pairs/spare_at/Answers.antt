-- The row that is sought decides: it is of the two links, or none is.
use Rattle.std.proofs.Common.{◌≡◌, sym, ◌∙◌, ltb, arith, ltb-true, lt-ltb}
use Rattle.sets.proofs.Tests.{and_l, and_r, is_false, and_in, clash}
use Rattle.sheet.specs.Sheet.{freq_part}
use Rattle.spacing.specs.Spacing.{distance}
use Rattle.pair_test.specs.Pairs.{spare_free}
use Rattle.pair_test.proofs.Laws.{parts_of, freq_there}
use Rattle.spacing.proofs.Spacing.{read_back}
use Rattle.pair_test.proofs.Pairing.{of_out, spare_rule, spare_none}
use Rattle.pair_test.proofs.pairs.spare_at.Goals as goal

pub spare_of_row-requires : goal.spare_of_row-requires
spare_of_row-requires c =
    let h = c.requires in
    let j = c.args.j in
    let t = sym c.is_of.ensures ∙ c.if-is_of.true in
    let o = of_out _ _ _ _ (and_r (ltb j _) _ t) in
    record {
      accepted = h.accepted;
      among = ltb-true j _ (and_l (ltb j _) _ t);
      in_a = rw o.0 h.in_a;
      in_b = rw o.1 h.in_b;
    }

pub returns-then-is_of : goal.returns-then-is_of
returns-then-is_of c =
    let h = c.requires in
    let a = c.args in
    let t = sym c.is_of.ensures ∙ c.if-is_of.true in
    read_back c.spare_of_row.type_inv (c.spare_of_row.ensures
    ∙ spare_rule (parts_of _ h.accepted) h.sought h.order a.u a.v
    (ltb-true a.j _ (and_l (ltb a.j _) _ t)) (and_r (ltb a.j _) _ t))

pub freq-requires : goal.freq-requires
freq-requires c =
    let h = c.requires in
    let o = h.order in
    let w = h.within in
    rw c.freq_part-fs.ensures (freq_there (parts_of _ h.accepted) c.args.a
    c.args.u (omega arith) h.in_a)

pub freq-requires-2 : goal.freq-requires-2
freq-requires-2 c =
    let h = c.requires in
    rw c.freq_part-fs.ensures (freq_there (parts_of _ h.accepted)
    c.args.b c.args.v
    h.within h.in_b)

pub overflow_cast-apart : goal.overflow_cast-apart
unfolding distance
overflow_cast-apart c =
    let d = c.distance-apart.ensures in
    record { fits = omega (arith, d, c.freq-2.ensures.1, c.freq.ensures.1) }

pub returns : goal.returns
unfolding spare_free
returns c =
    let h = c.requires in
    let a = c.args in
    let n = sym c.is_of.ensures
    ∙ c.if-is_of.false in
    let e : c.spare_without.result ≡ spare_free (freq_part a.s.now) a.u a.v =
    rw (
      ← c.freq_part-fs.ensures,
      ← c.freq.ensures.0,
      ← c.freq-2.ensures.0,
      ← c.distance-apart.ensures,
    )
    c.spare_without.ensures in
    read_back c.spare_without.type_inv (e ∙ spare_none (parts_of _ h.accepted) h.sought h.order a.u a.v
    (λ l. is_false _ (λ t. clash _ (and_in (lt-ltb a.j _ l) t) n)))
