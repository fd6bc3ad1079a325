use Rattle.std.proofs.Common.{sym, ◌∙◌, ◌-◌, take, arith}
use Rattle.graph_read.proofs.Firsts.{first_back, layer_hit, layer_down, layer_none}
use Rattle.graph_read.proofs.links.layer_by.Goals as goal

pub overflow_sub-first : goal.overflow_sub-first
overflow_sub-first c =
    let s = c.args in
    let l = c.loop-l in
    omega (arith, first_back s.counts.now s.k l.l (l.l - 1) l.first (omega arith) (omega arith) l.invariant.0)

pub returns-then-first-v : goal.returns-then-first-v
returns-then-first-v c =
    let s = c.args in
    let l = c.loop-l in
    let b = first_back s.counts.now s.k l.l (l.l - 1) l.first (omega arith) (omega arith) l.invariant.0 in
    sym (l.invariant.1 ∙ layer_hit (take s.k s.counts.now) l.l (l.l - 1) s.v (omega arith) (omega arith))

pub loop-l-preserved : goal.loop-l-preserved
loop-l-preserved c =
    let s = c.args in
    let l = c.loop-l in
    let b = first_back s.counts.now s.k l.l (l.l - 1) l.first (omega arith) (omega arith) l.invariant.0 in
    (omega arith, l.invariant.1 ∙ layer_down (take s.k s.counts.now) l.l (l.l - 1) s.v (omega arith) (omega arith))

pub returns : goal.returns
returns c =
    sym (c.loop-l.invariant.1 ∙ layer_none _ c.loop-l.l _ (omega arith))
