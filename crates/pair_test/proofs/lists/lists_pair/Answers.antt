use Rattle.std.proofs.Common.{rules, sym, arith}
use Rattle.sets.proofs.Below.{any_ends, any_goes_on, any_none, any_stops}
use Rattle.pair_test.specs.Pairs.{lists_pair}
use Rattle.pair_test.proofs.lists.lists_pair.Goals as goal

pub loop-i-init : goal.loop-i-init
loop-i-init c = any_none _

pub overflow_add-base : goal.overflow_add-base
overflow_add-base c = let g = c.requires (omega arith) in omega arith

pub is_pair-requires : goal.is_pair-requires
is_pair-requires c = let g = c.requires (omega arith) in omega arith

pub returns-then-is_pair : goal.returns-then-is_pair
unfolding lists_pair
returns-then-is_pair c = search (rules, any_stops, sym)

pub loop-i-preserved : goal.loop-i-preserved
loop-i-preserved c = any_goes_on _ _ _ c.loop-i.invariant c.is_pair.ensures c.if-is_pair.false

pub returns : goal.returns
unfolding lists_pair
returns c = search (rules, any_ends, sym)
