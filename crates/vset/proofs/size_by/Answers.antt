use Rattle.std.proofs.Common.{◌≡◌, refl, arith}
use Rattle.std.proofs.lemmas.Nat.{ones-le}
use Rattle.sets.specs.Below.{count}
use Rattle.vset.proofs.Count.{counted}
use Rattle.vset.proofs.size_by.Goals as goal

pub loop-i-init : goal.loop-i-init
unfolding count
loop-i-init g c =
    (omega arith, λ S kept. refl)

pub loop-i-preserved : goal.loop-i-preserved
loop-i-preserved g c =
    let l = c.loop-i in (
      omega (arith, ones-le 64 c.word.result c.word.type_inv),
      λ S kept.
          let word = kept l.i c.word.result (omega arith) c.word.ensures c.word.type_inv in
          (counted l.members word c.word.type_inv (l.invariant.1 S kept)).more,
    )

pub returns : goal.returns
returns g c = λ S kept.
    let e : c.loop-i.i ≡ c.args.n = omega arith in
    rw e at (c.loop-i.invariant.1 S kept)
