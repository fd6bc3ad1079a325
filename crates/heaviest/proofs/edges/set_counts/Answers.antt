-- `heaviest::edges::set_counts` meets its contract.
use Rattle.std.proofs.Common.{length-take-le, arith}
use Rattle.heaviest.proofs.Kept.{counts_set}
use Rattle.heaviest.proofs.edges.set_counts.Goals as goal

pub returns : goal.returns
returns c =
    let room = length-take-le c.args.k c.args.counts.now (omega (arith, c.requires.0.k_few)) in
    counts_set c.args.k c.args.m _ _ room (c.fill.ensures.after (λ y s. s))
