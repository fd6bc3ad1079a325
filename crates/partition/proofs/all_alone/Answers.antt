use Rattle.std.proofs.Common.{sym, ◌∙◌, arith, ltb, ltb-true}
use Rattle.sets.proofs.Tests.{and_in}
use Rattle.sets.proofs.Below.{all_none, all_out, all_step, all_false}
use Rattle.partition.specs.Partition.{class_of}
use Rattle.partition.proofs.all_alone.Goals as goal

pub loop-v-init : goal.loop-v-init
loop-v-init c =
    λ adj R M. all_none _

pub is_alone-requires : goal.is_alone-requires
is_alone-requires c =
    let a = c.args in
    let f = all_out a.place.n (λ v. ltb (class_of a.cls.now v) a.place.k) c.requires.3 in
    (c.requires.0, c.requires.1, c.requires.2, omega arith, ltb-true _ _ (f _ (omega arith)))

pub returns-then-not-is_alone : goal.returns-then-not-is_alone
returns-then-not-is_alone c =
    record {
      answer = λ adj R M. sym (all_false _ _ _ c.loop-v-test.true (sym (c.is_alone.ensures.answer adj R M) ∙ c.if-not-is_alone.true));
    }

pub loop-v-preserved : goal.loop-v-preserved
loop-v-preserved c =
    λ adj R M. rw all_step (and_in (c.loop-v.invariant adj R M)
    (sym (c.is_alone.ensures.answer adj R M) ∙ c.if-not-is_alone.false))
