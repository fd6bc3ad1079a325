use Rattle.std.proofs.Common.{arith, ◌<◌, ◌∙◌, sym}
use Rattle.sets.proofs.Tests.{and_in}
use Rattle.sets.proofs.Below.{all_false, all_step, loop_ends}
use Rattle.sheet.specs.Sheet.{k_of}
use Rattle.rules.specs.Plans.{link_kept}
use Rattle.pair_test.proofs.Pairing.{before_next, none_higher, higher_is}
use Rattle.rules.proofs.plans.link_kept.Invariants.{above}
use Rattle.rules.proofs.plans.link_kept.Goals as goal

pub loop-b-init : goal.loop-b-init
loop-b-init c =
    let h = c.requires.2 in
    record { within = h.within; before = before_next _ (omega arith) h.earlier; kept = none_higher _ _ }

pub returns-then-not-pair_kept : goal.returns-then-not-pair_kept
unfolding link_kept
returns-then-not-pair_kept c =
    let a = c.args in
    let v = c.loop-b in
    let h : v.b < k_of a.s.now = omega arith in
    let e = higher_is _ (omega arith) c.pair_kept.ensures in
    sym (all_false _ (above a.s.now a.cells.now a.a) v.b h (sym e ∙ c.if-not-pair_kept.true))

pub loop-b-preserved : goal.loop-b-preserved
loop-b-preserved c =
    let S = c.seek_rule-j.ensures in
    let low : c.args.a < c.loop-b.b = omega arith in
    let e = higher_is _ low c.pair_kept.ensures in
    record {
      within = S.within;
      before = before_next _ (omega arith) S.earlier;
      kept = rw all_step (and_in c.loop-b.invariant.kept (sym e ∙ c.if-not-pair_kept.false));
    }

pub returns : goal.returns
unfolding link_kept
returns c =
    let a = c.args in
    let p = above a.s.now a.cells.now a.a in
    sym (loop_ends (k_of a.s.now) _ p (omega arith) (omega arith) c.loop-b.invariant.kept)
