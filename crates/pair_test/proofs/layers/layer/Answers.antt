use Rattle.std.proofs.Common.{◌≡◌, ◌+◌, ◌-◌, ◌∙◌, sym, arith}
use Rattle.pair_test.specs.Layers.{layer_of}
use Rattle.pair_test.proofs.Laws.{layer_down, layer_hit}
use Rattle.pair_test.proofs.layers.layer.Goals as goal

pub returns-then-link_first-v : goal.returns-then-link_first-v
returns-then-link_first-v c =
    let m = c.loop-m.m in
    let e : m ≡ m - 1 + 1 = omega arith in
    omega (arith, layer_hit c.args.s.now m (m - 1) c.args.v e (omega arith))

pub loop-m-preserved : goal.loop-m-preserved
loop-m-preserved c =
    let m = c.loop-m.m in
    let e : m ≡ m - 1 + 1 = omega arith in
    c.loop-m.invariant ∙ layer_down c.args.s.now m (m - 1) c.args.v e (omega arith)

pub returns : goal.returns
unfolding layer_of
returns c = let e : c.loop-m.m ≡ 0 = omega arith in sym (rw e at c.loop-m.invariant)
