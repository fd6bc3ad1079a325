use Rattle.std.proofs.Common.{true≢false, arith, get_or}
use mathlib.Core.Bool.{false≢true}
use lib.Bits.{and_lt}
use Rattle.vset.proofs.Words.{common, ends_has, ends_wide, ends_meet}
use Rattle.vset.proofs.Least.{word_some, none_word, none_join, none_all}
use Rattle.vset.proofs.is_empty_common.Goals as goal

pub loop-i-init : goal.loop-i-init
loop-i-init c =
    λ v l h. absurd (omega arith)

pub returns-then-a-i-ne0 : goal.returns-then-a-i-ne0
returns-then-a-i-ne0 c =
    let a = c.args.a.now in
    let b = c.args.b.now in
    let i = c.loop-i.i in
    record {
      empty = λ e. absurd (false≢true e);
      some = λ e. word_some (common a b i)
          (and_lt 64 (get_or a i 0) (get_or b i 0) (c.type_inv.a i).fits
          (c.type_inv.b i).fits) c.if-a-i-ne0.true;
    }

pub loop-i-preserved : goal.loop-i-preserved
loop-i-preserved c =
    let l = c.loop-i in
    none_join _ _ _ _ l.invariant (none_word (common c.args.a.now c.args.b.now l.i) c.if-a-i-ne0.false)

pub returns : goal.returns
returns c =
    record {
      empty = λ e. none_all c.loop-i.invariant (ends_meet (ends_wide (ends_has _) _ (omega arith)) _);
      some = λ e. absurd (true≢false e);
    }
