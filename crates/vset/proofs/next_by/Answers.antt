use Rattle.std.proofs.Common.{◌+◌, ◌*◌, ◌/◌, ◌%◌, ◌≡◌, arith}
use Rattle.vset.proofs.Least.{least_in, none_in, least_word, none_word, none_join, least_from, least_none}
use Rattle.vset.proofs.next_by.Goals as goal

pub returns-then-first-ne0 : goal.returns-then-first-ne0
returns-then-first-ne0 g c = λ S kept.
    let from = c.args.from in
    let e : 64 * (from / 64) + from % 64 ≡ from = omega arith in
    let word = kept (from / 64) c.word.result (omega arith) c.word.ensures c.word.type_inv in
    rw e at (least_in word (from % 64) c.args.n (omega arith) c.word.type_inv c.if-first-ne0.true)

pub loop-i-init : goal.loop-i-init
loop-i-init g c =
    let from = c.args.from in (
      omega arith,
      λ S kept v l h.
          let word = kept (from / 64) c.word.result (omega arith) c.word.ensures c.word.type_inv in
          none_in word (from % 64) c.if-first-ne0.false v (omega arith) h,
    )

pub returns-then-w-ne0 : goal.returns-then-w-ne0
returns-then-w-ne0 g c = λ S kept.
    let l = c.loop-i in
    let word = kept l.i c.word-w.result (omega arith) c.word-w.ensures c.word-w.type_inv in
    least_from _ l.invariant.0 (l.invariant.1 S kept)
    (least_word word c.args.n (omega arith) c.word-w.type_inv c.if-w-ne0.true)

pub loop-i-preserved : goal.loop-i-preserved
loop-i-preserved g c =
    let l = c.loop-i in (
      omega arith,
      λ S kept.
          let word = kept l.i c.word-w.result (omega arith) c.word-w.ensures c.word-w.type_inv in
          none_join S _ _ _ (l.invariant.1 S kept) (none_word word c.if-w-ne0.false),
    )

pub returns : goal.returns
returns g c = λ S kept.
    let e : c.loop-i.i ≡ c.args.n = omega arith in
    rw e at (least_none c.loop-i.invariant.0 (c.loop-i.invariant.1 S kept))
